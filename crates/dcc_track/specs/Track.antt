-- A decoder on the main track and on the programming track (NMRA S-9.2.3): the effect of a frame on
-- both parts.
use Rattle.std.specs.Prelude.{◌≡◌, ◌≢◌, ℕ, ◌&&◌, ◌||◌, Bool, true, false, None, is_some, List, if◌then◌else◌}
use Rattle.dcc_packet.specs.declared.packet.Packet.{Packet}
use Rattle.dcc_packet.specs.Spelling.{spelling}
use Rattle.dcc_service.specs.declared.progress.ServiceProgress.{ServiceProgress}
use Rattle.dcc_service.specs.Machine.{ServiceState, Step, reset_bytes}
use Rattle.dcc_service.specs.Progress.{state_with_cvs}
use Rattle.dcc_track.specs.declared.track.TrackDecoder.{TrackDecoder}
use Rattle.dcc_track.specs.declared.answer.TrackAnswer.{TrackAnswer}
use Rattle.dcc_track.specs.DecoderState.{DecoderState, HasChanged, after_packet, after_power_up, with_new_cvs}

-- the state of a decoder on both tracks. `progress` is the state of service mode. `changed` is true
-- if a service packet changed a CV. If `main_only` is true, the decoder stays on the main track.
pub record TrackState : Type 0 where
  pub decoder : DecoderState
  pub progress : ServiceProgress
  pub changed : Bool
  pub main_only : Bool

-- the state of a decoder on both tracks with these parts
abbrev pub track_state : DecoderState → ServiceProgress → Bool → Bool → TrackState
track_state decoder progress changed main_only =
    record { decoder = decoder; progress = progress; changed = changed; main_only = main_only }

-- the state of the decoder `t`, if `state` is the state of the decoder in it
abbrev pub track_of : {A : Type 0} → (A → DecoderState) → TrackDecoder A → TrackState
track_of state t = track_state (state t.decoder) t.progress t.changed t.main_only

-- the state of a decoder that is not in service mode, and that has heard no frame
abbrev pub new_track : DecoderState → Bool → TrackState
new_track decoder main_only =
    track_state decoder (record { in_service = false; pending = None }) false main_only

-- the state of the service part: service mode, and the CVs of the decoder
abbrev pub service_part : TrackState → ServiceState
service_part s = state_with_cvs s.progress s.decoder.cvs

-- true if the decoder is in service mode, and a service packet changed a CV since service mode began
abbrev pub has_new_cvs : TrackState → Bool
has_new_cvs s = s.progress.in_service && s.changed

-- the state `s` after service mode has ended. If a service packet changed a CV since service mode
-- began, the decoder powers up with its CVs.
abbrev pub service_ended : TrackState → TrackState
service_ended s = new_track (if has_new_cvs s then after_power_up s.decoder else s.decoder) s.main_only

-- the state `s` after the caller has said if the decoder stays on the main track. If it does, service
-- mode has ended.
abbrev pub kept_on_main : TrackState → Bool → TrackState
kept_on_main s true = record (service_ended s) { main_only = true }
kept_on_main s false = record s { main_only = false }

-- a decoder in state `before` hears the packet of `frame` on the main track, and has the state
-- `after` then
pub record HearsOnMain (frame : List ℕ) (before after : DecoderState) : Type 0 where
  pub packet : Packet
  pub spelled : spelling packet ≡ frame
  pub applied : after ≡ after_packet before packet

-- A decoder on both tracks in state `before` hears `frame`, and has the state `after` then. The
-- service part takes `frame` and goes to the state `served`. If this changes a CV, `changed` is true.
pub record HearsOnBoth (before after : TrackState) (frame : List ℕ) (served : ServiceState) (changed : Bool) : Type 0
  where
    -- the service part of the decoder is in the state `served`
    pub in_service : after.progress.in_service ≡ served.in_service
    pub pending : after.progress.pending ≡ served.pending
    -- both parts hear the reset
    pub reset : frame ≡ reset_bytes
        → HearsOnMain frame before.decoder after.decoder × (after.changed ≡ has_new_cvs before)
    -- if the service part is in service mode after a frame other than the reset, only the service
    -- part hears the frame
    pub service : frame ≢ reset_bytes → served.in_service ≡ true
        → (after.decoder ≡ with_new_cvs before.decoder served.cvs) × (after.changed ≡ (has_new_cvs before || changed))
    -- otherwise the decoder hears the frame on the main track. If the frame ends service mode, service
    -- mode ends before that.
    pub main : frame ≢ reset_bytes → served.in_service ≡ false
        → HearsOnMain frame (service_ended before).decoder after.decoder × (after.changed ≡ false)

-- A decoder in state `before` hears `frame`, and has the state `after` then. `answer` says if the
-- decoder acknowledges the frame, and which CV changed.
pub record HearsFrame (before : TrackState) (frame : List ℕ) (after : TrackState) (answer : TrackAnswer) : Type 0 where
  pub flag : after.main_only ≡ before.main_only
  -- a decoder that stays on the main track hears each frame there, and acknowledges no frame
  pub main_only : before.main_only ≡ true
      → HearsOnMain frame before.decoder after.decoder × (after.progress ≡ before.progress)
      × (after.changed ≡ before.changed) × (answer.acknowledged ≡ false)
  -- otherwise both parts can hear the frame, and the service part acknowledges the frame
  pub both : before.main_only ≡ false
      → (served : ServiceState) × Step (service_part before) frame served answer.acknowledged
      × HearsOnBoth before after frame served (is_some answer.changed)
  -- the answer has the CV that changed
  pub changed : HasChanged before.decoder.cvs after.decoder.cvs answer.changed
