-- Theorems about a decoder on both tracks, for lists of frames.
use Rattle.std.specs.Prelude.{◌↔◌, ◌≡◌, ◌≢◌, ◌⊎◌, ℕ, true, false, List, [], ◌∷◌, ◌++◌, map}
use Rattle.dcc_packet.specs.declared.accessory.Board.{Board}
use Rattle.dcc_packet.specs.declared.packet.Packet.{Packet}
use Rattle.dcc_packet.specs.Spelling.{spelling}
use Rattle.dcc_regs.specs.declared.register.Who.TheVariants.{Board as BoardWho}
use Rattle.dcc_regs.specs.Heard.{hears}
use Rattle.dcc_regs.specs.Result.{HasHeard}
use Rattle.dcc_service.specs.declared.packet.ServicePacket.{ServicePacket}
use Rattle.dcc_service.specs.Machine.{reset_bytes}
use Rattle.dcc_service.specs.Question.{Steps}
use Rattle.dcc_service.specs.Table.{service_spelling}
use Rattle.dcc_track.specs.declared.answer.TrackAnswer.{TrackAnswer}
use Rattle.dcc_track.specs.DecoderState.{DecoderState}
use Rattle.dcc_track.specs.Track.{HearsFrame, TrackState, service_part}

-- a decoder in state `before` hears the frames of a list, one after the other, and has the state
-- `after` then. The list of answers has one answer for each frame.
unfoldable pub HearsFrames : TrackState → List (List ℕ) → TrackState → List TrackAnswer → Type 0
HearsFrames before [] after [] = after ≡ before
HearsFrames before [] after (answer ∷ answers) = ⊥
HearsFrames before (frame ∷ frames) after [] = ⊥
HearsFrames before (frame ∷ frames) after (answer ∷ answers) =
    (next : TrackState) × HearsFrame before frame next answer × HearsFrames next frames after answers

-- a decoder that has heard no frame has its first state
abbrev pub NoFrameHeard : Type 0
NoFrameHeard = (state : TrackState) → HearsFrames state [] state []

-- a decoder in state `now` has heard frames, and hears one more frame. It has then heard the list with
-- this frame at its end.
abbrev pub OneMoreFrameHeard : Type 0
OneMoreFrameHeard =
    (before now after : TrackState) (frames : List (List ℕ)) (answers : List TrackAnswer) (frame : List ℕ)
    (answer : TrackAnswer) → HearsFrames before frames now answers → HearsFrame now frame after answer
    → HearsFrames before (frames ++ frame ∷ []) after (answers ++ answer ∷ [])

-- a plain decoder with the identity and the registers of `before` hears the packets of the frames
-- `frames`. It has the identity and the registers of `after` then. `answers` acknowledge no frame.
-- The CVs of an accessory decoder do not change.
pub record IsPlain (frames : List (List ℕ)) (before after : DecoderState) (answers : List TrackAnswer) : Type 0 where
  pub silent : map (λ answer. answer.acknowledged) answers ≡ map (λ frame. false) frames
  pub packets : List Packet
  pub spelled : map spelling packets ≡ frames
  pub heard : HasHeard packets before.who before.registers after.who after.registers
  pub board_cvs : (own : Board) → before.who ≡ BoardWho own → after.cvs ≡ before.cvs

-- no service packet comes directly after a reset. So no service packet comes after a reset while
-- service mode lasts, because a frame that is neither a reset nor a service packet ends service
-- mode.
abbrev pub NoServicePacketAfterReset : List (List ℕ) → Type 0
NoServicePacketAfterReset frames =
    (earlier later : List (List ℕ)) (packet : ServicePacket)
    → frames ≢ earlier ++ reset_bytes ∷ service_spelling packet ∷ later

-- let a decoder outside of service mode hear frames of which no service packet comes directly after
-- a reset. The decoder then is a plain decoder that has heard the frames.
abbrev pub WithoutServicePacketsIsPlain : Type 0
WithoutServicePacketsIsPlain =
    (before after : TrackState) (frames : List (List ℕ)) (answers : List TrackAnswer)
    → before.progress.in_service ≡ false → NoServicePacketAfterReset frames → HearsFrames before frames after answers
    → IsPlain frames before.decoder after.decoder answers

-- a decoder that stays on the main track is a plain decoder that has heard the frames
abbrev pub MainOnlyIsPlain : Type 0
MainOnlyIsPlain =
    (before after : TrackState) (frames : List (List ℕ)) (answers : List TrackAnswer) → before.main_only ≡ true
    → HearsFrames before frames after answers → IsPlain frames before.decoder after.decoder answers

-- the frame is the reset, or the frame of a service packet
abbrev pub IsServiceFrame : List ℕ → Type 0
IsServiceFrame frame = (frame ≡ reset_bytes) ⊎ ((packet : ServicePacket) × (frame ≡ service_spelling packet))

-- each frame of the list is the reset, or the frame of a service packet
unfoldable pub AreServiceFrames : List (List ℕ) → Type 0
AreServiceFrames [] = Unit {0}
AreServiceFrames (frame ∷ frames) = IsServiceFrame frame × AreServiceFrames frames

-- let a decoder that can hear both tracks be in service mode, and hear resets and service packets.
-- Its service part and its CVs are those of a decoder on the programming track that gets the
-- frames, and so are the acknowledgements.
abbrev pub ServiceModeIsTheMachine : Type 0
ServiceModeIsTheMachine =
    (before after : TrackState) (frames : List (List ℕ)) (answers : List TrackAnswer) → before.main_only ≡ false
    → before.progress.in_service ≡ true → AreServiceFrames frames → HearsFrames before frames after answers
    → Steps (service_part before) frames (service_part after) (map (λ answer. answer.acknowledged) answers)

-- let a decoder that can hear both tracks hear a reset, and then resets and service packets. Its
-- service part and its CVs are those of a decoder on the programming track that gets the frames,
-- and so are the acknowledgements.
abbrev pub ResetEntersTheMachine : Type 0
ResetEntersTheMachine =
    (before after : TrackState) (frames : List (List ℕ)) (answers : List TrackAnswer) → before.main_only ≡ false
    → AreServiceFrames frames → HearsFrames before (reset_bytes ∷ frames) after answers
    → Steps (service_part before) (reset_bytes ∷ frames) (service_part after)
    (map (λ answer. answer.acknowledged) answers)

-- a decoder with the address 511 hears exactly the packets that all accessory decoders hear
abbrev pub Board511HearsBroadcasts : Type 0
Board511HearsBroadcasts =
    (own : Board) (p : Packet) → own.number ≡ 511
    → hears (BoardWho own) p ≡ true ↔ ((other : Board) → hears (BoardWho other) p ≡ true)
