-- Layouts: a C program that sends the packets of a station, a C program that hears them with a
-- decoder, and the track between the two programs.
use Rattle.std.specs.List.{AllZip}
use Rattle.std.specs.Prelude.{◌≡◌, ◌≢◌, ◌⊎◌, ◌==◌, ◌+◌, ◌-◌, ℕ, true, if◌then◌else◌}
use Rattle.std.specs.Prelude.{List, [], ◌∷◌, ◌++◌, length, filter}
use Rattle.dcc_wire.specs.declared.halves.Halves.{Halves}
use Rattle.dcc_wire.specs.declared.kept.KeptFramer.{KeptFramer}
use Rattle.dcc_wire.specs.declared.timing.Timing.{Timing}
use Rattle.dcc_wire.specs.Frames.{IsFrame}
use Rattle.dcc_wire.specs.Framing.{Rest, Hunting, StandsFor, report_at, seen}
use Rattle.dcc_wire.specs.HalvesLeft.{halves_left}
use Rattle.dcc_wire.specs.Half.{class_of}
use Rattle.dcc_wire.specs.Jitter.{IsWithin}
use Rattle.dcc_wire.specs.Kept.{kept_rest}
use Rattle.dcc_wire.specs.Sending.{sent}
use Rattle.dcc_packet.specs.declared.packet.Packet.{Packet}
use Rattle.dcc_packet.specs.declared.packet.Packet.TheVariants.{Idle}
use Rattle.dcc_packet.specs.Spelling.{spelling}
use Rattle.dcc_regs.specs.declared.register.Register.{Register}
use Rattle.dcc_regs.specs.declared.register.Register.TheVariants as registers
use Rattle.dcc_regs.specs.Result.{result}
use Rattle.dcc_regs.specs.Safety.{can_move}
use Rattle.dcc_station.specs.Refresh.{StationRepresents, intended}
use Rattle.dcc_station.specs.Sending.{outgoing, stop_packet, not_withdrawn}
use Rattle.dcc_station.specs.Stops.{StationObeys, partly_sent}
use Rattle.dcc_track.specs.declared.answer.TrackAnswer.{TrackAnswer}
use Rattle.dcc_track.specs.Track.{HearsFrame, TrackState}
use Rattle.dcc_c.specs.declared.frame.DccFrame.{DccFrame}
use Rattle.dcc_c.specs.declared.outcome.DccOutcome.{DccOutcome}
use Rattle.dcc_c.specs.declared.station_numbers.DccStation.{DccStation}
use Rattle.dcc_c.specs.declared.track_answer.DccAnswer.{DccAnswer}
use Rattle.dcc_c.specs.Frames.{bytes_of, frame_answer, frame_numbers}
use Rattle.dcc_c.specs.Outcomes.{seen_at_answer}
use Rattle.dcc_c.specs.Senders.{HasLeft}
use Rattle.dcc_c.specs.Stations.{sending_of}
use Rattle.dcc_c.specs.TrackAnswers.{answer_numbers}

-- the objects of the two programs, and the items that wait between two calls. `D` is the C
-- structure of the decoder.
pub record Layout (D : Type 0) : Type 0 where
  pub station : DccStation
  -- the frames of `dcc_station_next` that no sender has begun
  pub to_send : List (List ℕ)
  -- the sender of the packet that is on the track
  pub sender : Halves
  -- the half-bits of `dcc_sender_half` that `dcc_push` has not taken, in microseconds
  pub on_track : List ℕ
  pub framer : KeptFramer
  -- the frames of `dcc_push` that the decoder has not heard
  pub to_hear : List (List ℕ)
  pub decoder : D

-- the framer has taken a list of half-bits, and has no unfinished body
pub record IsBetweenBodies (framer : Rest) : Type 0 where
  pub halves : List ℕ
  pub stands : StandsFor framer halves
  pub ones : ℕ
  pub hunts : framer ≡ Hunting ones

-- a half-bit of `us` microseconds is measured as `measured`, with an error of at most 3 microseconds.
-- A larger error is possible if the class stays the same: 6 microseconds if `us` is 58 or 100.
abbrev pub IsMeasuredAs : ℕ → ℕ → Type 0
IsMeasuredAs us measured = IsWithin 3 us measured ⊎ (class_of measured ≡ class_of us)

-- the frame that a program passes to the decoder after a call of `dcc_push`. If the call returned 0,
-- or if the outcome is a refusal, there is no such frame, and the list is empty.
abbrev pub frame_passed_on : ℕ → DccOutcome → List (List ℕ)
frame_passed_on answer outcome =
    if answer == 0 then [] else (if outcome.refusal == 0 then bytes_of outcome.frame ∷ [] else [])

-- The layout has accepted `commands`. The decoder had the state `start` before, and is kept on the
-- main track. Each constructor is a call of a function of C, and its premises are the clauses of
-- this function. `Is decoder s` says that the C structure `decoder` is that of a decoder in state
-- `s`. Calls that change no object of the layout have no constructor.
pub data LayoutObeys {D : Type 0} (Is : D → TrackState → Type 0) (start : TrackState)
    : List Packet → Layout D → Type 0 where
  -- The station is new. No half-bit is left, and the framer is between two bodies.
  begins : (station : DccStation) (sender : Halves) (framer : KeptFramer) (decoder : D) → start.main_only ≡ true
      → StationRepresents (sending_of station) [] [] → HasLeft sender [] → IsBetweenBodies (kept_rest framer)
      → Is decoder start → LayoutObeys Is start [] (record {
        station = station;
        to_send = [];
        sender = sender;
        on_track = [];
        framer = framer;
        to_hear = [];
        decoder = decoder;
      })
  -- `dcc_station_command` accepts the command `p`
  accepts_command : (commands : List Packet) (l : Layout D) (station : DccStation) (p : Packet)
      → LayoutObeys Is start commands l
      → ((all packets : List Packet) → StationObeys (sending_of l.station) all packets
      → StationObeys (sending_of station) (all ++ p ∷ []) packets)
      → LayoutObeys Is start (commands ++ p ∷ []) (record l { station = station })
  -- `dcc_station_stop` withdraws commands, and puts the stop before the other commands
  stops_all : (done : List Packet) (l : Layout D) (station : DccStation)
      → LayoutObeys Is start (done ++ outgoing (sending_of l.station)) l
      → ((before packets : List Packet)
      → StationObeys (sending_of l.station) (before ++ outgoing (sending_of l.station)) packets
      → StationObeys (sending_of station) (before ++ filter can_move (partly_sent (sending_of l.station))
      ++ stop_packet ∷ not_withdrawn (sending_of l.station).waiting) packets)
      → LayoutObeys Is start (done ++ filter can_move (partly_sent (sending_of l.station))
      ++ stop_packet ∷ not_withdrawn (sending_of l.station).waiting) (record l { station = station })
  -- `dcc_station_forget` removes entries
  forgets_entries : (commands : List Packet) (l : Layout D) (station : DccStation) → LayoutObeys Is start commands l
      → ((all packets : List Packet) → StationObeys (sending_of l.station) all packets
      → StationObeys (sending_of station) all packets)
      → LayoutObeys Is start commands (record l { station = station })
  -- `dcc_station_next` writes the frame of the packet `p`
  returns_frame : (commands : List Packet) (l : Layout D) (station : DccStation) (frame : DccFrame) (p : Packet)
      → LayoutObeys Is start commands l → frame ≡ frame_numbers (spelling p)
      → ((all packets : List Packet) → StationObeys (sending_of l.station) all packets
      → StationObeys (sending_of station) all (packets ++ p ∷ []))
      → LayoutObeys Is start commands (record l { station = station; to_send = l.to_send ++ bytes_of frame ∷ [] })
  -- After the last half-bit of a packet, the sender becomes one to which `dcc_sender_start` has given
  -- the next frame.
  begins_packet : (commands : List Packet) (l : Layout D) (frame : List ℕ) (later : List (List ℕ)) (timing : Timing)
      (sender : Halves) → LayoutObeys Is start commands l → l.to_send ≡ frame ∷ later → HasLeft l.sender []
      → IsFrame frame → HasLeft sender (sent frame timing)
      → LayoutObeys Is start commands (record l { to_send = later; sender = sender })
  -- If there is no next frame in time, the sender can become a sender with an idle packet.
  begins_idle_packet : (commands : List Packet) (l : Layout D) (timing : Timing) (sender : Halves)
      → LayoutObeys Is start commands l → HasLeft l.sender [] → HasLeft sender (sent (spelling Idle) timing)
      → LayoutObeys Is start commands (record l { sender = sender })
  -- `dcc_sender_half` returns the half-bit `us`
  sends_half : (commands : List Packet) (l : Layout D) (us : ℕ) (sender : Halves) → LayoutObeys Is start commands l
      → halves_left l.sender ≡ us ∷ halves_left sender
      → LayoutObeys Is start commands (record l { sender = sender; on_track = l.on_track ++ us ∷ [] })
  -- `dcc_push` takes the first half-bit on the track, which is measured as `measured`
  takes_measured_half : (commands : List Packet) (l : Layout D) (us measured : ℕ) (later : List ℕ)
      (framer : KeptFramer) (answer : ℕ) (outcome : DccOutcome) → LayoutObeys Is start commands l
      → l.on_track ≡ us ∷ later → IsMeasuredAs us measured
      → ((halves : List ℕ) → StandsFor (kept_rest l.framer) halves
      → StandsFor (kept_rest framer) (halves ++ measured ∷ []))
      → ((halves : List ℕ) → StandsFor (kept_rest l.framer) halves →
      seen (halves ++ measured ∷ []) ≡ seen halves ++ report_at (length halves) (seen_at_answer answer outcome))
      → LayoutObeys Is start commands (record l {
        on_track = later;
        framer = framer;
        to_hear = l.to_hear ++ frame_passed_on answer outcome;
      })
  -- `dcc_push_run` or `dcc_push_many` takes the first half-bits on the track, which are measured as
  -- `measured`. If an outcome ends, half-bit `at` of them is its last half-bit, counted from 1.
  takes_measured_halves : (commands : List Packet) (l : Layout D) (us measured later : List ℕ) (at : ℕ)
      (framer : KeptFramer) (answer : ℕ) (outcome : DccOutcome) → LayoutObeys Is start commands l
      → l.on_track ≡ us ++ later → AllZip IsMeasuredAs us measured
      → ((halves : List ℕ) → StandsFor (kept_rest l.framer) halves
      → StandsFor (kept_rest framer) (halves ++ measured))
      → ((halves : List ℕ) → StandsFor (kept_rest l.framer) halves →
      seen (halves ++ measured) ≡ seen halves ++ report_at (length halves + at - 1) (seen_at_answer answer outcome))
      → LayoutObeys Is start commands (record l {
        on_track = later;
        framer = framer;
        to_hear = l.to_hear ++ frame_passed_on answer outcome;
      })
  -- `dcc_decoder_hear` or `dcc_board_decoder_hear` takes the first frame that the framer has found
  hears_frame : (commands : List Packet) (l : Layout D) (frame : List ℕ) (later : List (List ℕ)) (decoder : D)
      (answer : DccAnswer) → LayoutObeys Is start commands l → l.to_hear ≡ frame ∷ later
      → (frame_answer frame ≡ 0 → (before : TrackState) → Is l.decoder before →
      (after : TrackState) × (told : TrackAnswer) × Is decoder after
      × HearsFrame before frame after told × (answer ≡ answer_numbers told))
      → LayoutObeys Is start commands (record l { to_hear = later; decoder = decoder })

-- nothing waits in the layout `l`: no stop, no command, no frame and no half-bit
pub record NothingWaits {D : Type 0} (l : Layout D) : Type 0 where
  pub commands : outgoing (sending_of l.station) ≡ []
  pub to_send : l.to_send ≡ []
  pub half_bits : HasLeft l.sender []
  pub on_track : l.on_track ≡ []
  pub to_hear : l.to_hear ≡ []

-- if nothing waits in a layout, each register of the decoder except Pending has its value after the
-- packets `intended commands`
abbrev pub LayoutsObeyCommands : {D : Type 0} → (D → TrackState → Type 0) → Type 0
LayoutsObeyCommands {D} Is =
    (start : TrackState) (commands : List Packet) (l : Layout D) → LayoutObeys Is start commands l → NothingWaits l
    → (now : TrackState) × Is l.decoder now × (now.decoder.who ≡ start.decoder.who)
    × ((register : Register) → register ≢ registers.Pending
    → now.decoder.registers register ≡ result start.decoder.who start.decoder.registers (intended commands) register)

-- the stop that waits and the commands in the queue are the last commands that the layout has
-- accepted
abbrev pub OutgoingEndsCommands : {D : Type 0} → (D → TrackState → Type 0) → Type 0
OutgoingEndsCommands {D} Is =
    (start : TrackState) (commands : List Packet) (l : Layout D) → LayoutObeys Is start commands l
    → (done : List Packet) × (commands ≡ done ++ outgoing (sending_of l.station))

-- a new framer is between two bodies
abbrev pub NewFramersAreBetweenBodies : Type 0
NewFramersAreBetweenBodies = (framer : Rest) → StandsFor framer [] → IsBetweenBodies framer

-- a framer is between two bodies after any noise and one packet with measured half-bits
abbrev pub PacketsEndBetweenBodies : Type 0
PacketsEndBetweenBodies =
    (framer : Rest) (noise measured frame : List ℕ) (timing : Timing) → IsFrame frame
    → AllZip IsMeasuredAs (sent frame timing) measured → StandsFor framer (noise ++ measured) → IsBetweenBodies framer
