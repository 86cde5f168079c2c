-- Zeros in the memory of a C program are new objects: a framer, a finder of lost packets, a meter, a
-- sender without half-bits, and decoders.
use Rattle.std.proofs.Common.{◌≡◌, ℕ, true, false, List, [], refl, arith, replicate, take, None, lit≤}
use Prim.{∣◌∣₁}
use Rattle.dcc_wire.specs.declared.halves.Halves.{Halves}
use Rattle.dcc_wire.specs.declared.kept.KeptFramer.{KeptFramer}
use Rattle.dcc_wire.specs.Framing.{StandsFor}
use Rattle.dcc_wire.specs.HalvesLeft.{IsToSend, halves_left, body_left, durations_in, highest_bits}
use Rattle.dcc_wire.specs.Kept.{IsKept, kept_rest}
use Rattle.dcc_wire.specs.Padded.{IsPadded}
use Rattle.dcc_wire.proofs.HistoryLemmas.{stands_for_nothing}
use Rattle.dcc_timing.specs.declared.bits.Bits.{Bits}
use Rattle.dcc_timing.specs.declared.classes.Classes.{Classes}
use Rattle.dcc_timing.specs.declared.gaps.Gaps.{Gaps}
use Rattle.dcc_timing.specs.declared.outcomes.Outcomes.{Outcomes}
use Rattle.dcc_timing.specs.declared.packets.Packets.{Packets}
use Rattle.dcc_timing.specs.declared.recent.LastNumbers.{LastNumbers}
use Rattle.dcc_timing.specs.declared.tally.Tally.{Tally}
use Rattle.dcc_timing.specs.declared.timings.Timings.{Timings}
use Rattle.dcc_timing.specs.KeptGaps.{last}
use Rattle.dcc_timing.specs.Measured.{AreMeasured}
use Rattle.dcc_timing.specs.Numbers.{least, most, steps}
use Rattle.dcc_timing.specs.Recent.{recent_numbers}
use Rattle.dcc_timing.specs.Tallies.{IsTally}
use Rattle.dcc_timing.proofs.MeasureLemmas.{measures_none}
use Rattle.dcc_lost.specs.declared.figures.Ended.{Ended}
use Rattle.dcc_lost.specs.declared.figures.TrackFigures.{TrackFigures}
use Rattle.dcc_lost.specs.declared.finder.LostFinder.{LostFinder}
use Rattle.dcc_lost.specs.declared.heard.Heard.{Heard}
use Rattle.dcc_lost.specs.Figures.{AreTrackFigures}
use Rattle.dcc_lost.specs.Finding.{HasRead, heard_state}
use Rattle.dcc_lost.specs.MeasuresTrack.{MeasuresTrack}
use Rattle.dcc_lost.specs.Reads.{Follows}
use Rattle.dcc_lost.specs.Unused.{unused_from}
use Rattle.dcc_lost.proofs.FigureLemmas.{none_measured}
use Rattle.dcc_lost.proofs.HeardLemmas.{hears_nothing}
use Rattle.dcc_regs.specs.declared.board_state.BoardState.{BoardState}
use Rattle.dcc_regs.specs.declared.loco_registers.LocoRegisters.{LocoRegisters}
use Rattle.dcc_regs.specs.declared.register.Speed.TheVariants.{Stop}
use Rattle.dcc_track.specs.Track.{new_track}
use Rattle.dcc_c.specs.declared.board.DccBoard.{DccBoard}
use Rattle.dcc_c.specs.declared.board_decoder.DccBoardDecoder.{DccBoardDecoder}
use Rattle.dcc_c.specs.declared.decoder.DccDecoder.{DccDecoder}
use Rattle.dcc_c.specs.declared.frame.DccFrame.{DccFrame}
use Rattle.dcc_c.specs.declared.loco_numbers.DccLoco.{DccLoco}
use Rattle.dcc_c.specs.declared.loco_numbers.DccLocoRegisters.{DccLocoRegisters}
use Rattle.dcc_c.specs.declared.track_part.TrackPart.{TrackPart}
use Rattle.dcc_c.specs.BoardDecoders.{IsBoardDecoder, board_state_in}
use Rattle.dcc_c.specs.Decoders.{IsDecoder, loco_state_in}
use Rattle.dcc_c.specs.HeldBoards.{HeldBoard}
use Rattle.dcc_c.specs.HeldRegisters.{HeldBy}
use Rattle.dcc_c.specs.Senders.{HasLeft}
use Rattle.dcc_c.proofs.BoardDecoderLemmas.{is_board_decoder}
use Rattle.dcc_c.proofs.DecoderLemmas.{is_decoder}

-- a sender

abbrev zero_sender : Halves
zero_sender = record { bits = 0; one = 0; zero_first = 0; zero_second = 0; ones = 0; body = 0 }

zeros_are_to_send : IsToSend zero_sender
zeros_are_to_send = record {
  one = λ some. absurd (omega (arith, some));
  zero_first = λ some. absurd (omega (arith, some));
  zero_second = λ some. absurd (omega (arith, some));
}

zeros_have_no_half_left : HasLeft zero_sender []
unfolding halves_left body_left durations_in highest_bits
zeros_have_no_half_left = refl

-- a framer. The six bytes of its body have the length 0.

zeros_are_no_bytes : IsPadded (replicate 6 0) 0
zeros_are_no_bytes = record { whole = refl; within = omega arith; zeros = refl }

abbrev zero_framer : KeptFramer
zero_framer = record {
  in_body = false;
  ones = 0;
  has_first = false;
  first = false;
  xor = 0;
  shift = 0;
  count = 0;
  bytes = take 0 (replicate 6 0);
}

zeros_are_a_new_framer : StandsFor (kept_rest zero_framer) []
zeros_are_a_new_framer = stands_for_nothing

zeros_are_a_framer : IsKept zero_framer
zeros_are_a_framer = record {
  packed = λ in_body. absurd (cc);
  unfinished = λ in_body. absurd (cc);
  history = ([], zeros_are_a_new_framer);
}

-- a finder of lost packets

abbrev zero_numbers : LastNumbers
zero_numbers = record { numbers = replicate 192 0; len = 0; fits = (omega arith, refl) }

no_numbers : recent_numbers zero_numbers ≡ []
unfolding recent_numbers
no_numbers = refl

abbrev zero_heard : Heard
zero_heard = record { framer = zero_framer; unused = 0; refused = false; since = 0; few = omega arith }

zeros_have_read_nothing : HasRead (heard_state zero_heard) (recent_numbers zero_numbers)
    (recent_numbers zero_numbers) []
unfolding unused_from
zeros_have_read_nothing =
    record { heard = hears_nothing _ zeros_are_a_new_framer; recent = no_numbers; unused = no_numbers }

abbrev zero_finder : LostFinder
zero_finder = record {
  heard = zero_heard;
  recent = zero_numbers;
  unused = zero_numbers;
  history = ∣ ([], zeros_have_read_nothing) ∣₁;
}

zeros_are_a_new_finder : Follows zero_finder []
zeros_are_a_new_finder = zeros_have_read_nothing

-- a meter

abbrev zero_tally : Tally
zero_tally = record { count = 0; sum = 0; least = 0; most = 0; few = omega arith; fits = omega arith }

empty_tally : IsTally zero_tally []
unfolding least most
empty_tally = record { count = refl; total = refl; lowest = refl; highest = refl }

abbrev zero_classes : Classes
zero_classes =
    record { below = zero_tally; ones = zero_tally; between = zero_tally; zeros = zero_tally; above = zero_tally }

abbrev zero_outcomes : Outcomes
zero_outcomes =
    record { packets = 0; bad_halves = 0; split_bits = 0; too_short = 0; too_long = 0; error_bytes = 0 }

abbrev zero_packets : Packets
zero_packets = record {
  bits = record { differences = zero_tally; sums = zero_tally };
  gaps = record { packets = 0; end = 0; longest = 0 };
}

zeros_have_measured_nothing : AreMeasured 0 0 zero_classes zero_outcomes zero_packets (kept_rest zero_framer)
    (recent_numbers zero_numbers) []
unfolding last most steps
zeros_have_measured_nothing =
    measures_none zero_classes zero_outcomes zero_packets (kept_rest zero_framer) (recent_numbers zero_numbers)
    (record {
      below = empty_tally;
      ones = empty_tally;
      between = empty_tally;
      zeros = empty_tally;
      above = empty_tally;
    })
    (record {
      packets = refl;
      bad_halves = refl;
      split_bits = refl;
      too_short = refl;
      too_long = refl;
      error_bytes = refl;
    })
    (record { differences = empty_tally; sums = empty_tally })
    (record { count = refl; end = refl; longest = refl })
    zeros_are_a_new_framer no_numbers

abbrev zero_timings : Timings
zero_timings = record {
  halves = 0;
  time = 0;
  classes = zero_classes;
  outcomes = zero_outcomes;
  packets = zero_packets;
  framer = zero_framer;
  recent = zero_numbers;
  time_fits = omega arith;
  classes_fit = omega arith;
  outcomes_fit = omega arith;
  bits_fit = omega arith;
  history = ∣ ([], zeros_have_measured_nothing) ∣₁;
}

abbrev zero_ended : Ended
zero_ended = record { lost = 0; has_packet = false; shortest = 0 }

zeros_have_no_figures : AreTrackFigures zero_timings zero_ended 0 0 (recent_numbers zero_numbers) []
zeros_have_no_figures =
    none_measured zero_timings zero_ended (recent_numbers zero_numbers) zeros_have_measured_nothing refl refl no_numbers

abbrev zero_meter : TrackFigures
zero_meter = record {
  timings = zero_timings;
  ended = zero_ended;
  ones = 0;
  unused = 0;
  preambles = zero_numbers;
  history = ∣ ([], zeros_have_no_figures) ∣₁;
}

zeros_are_a_new_meter : MeasuresTrack zero_meter []
zeros_are_a_new_meter = zeros_have_no_figures

-- decoders on both tracks. A locomotive decoder of zeros has no address, and it stands.

abbrev zero_frame : DccFrame
zero_frame = record { len = 0; bytes = replicate 6 0 }

abbrev zero_part : TrackPart
zero_part = record {
  service = record { in_service = false; pending = zero_frame };
  changed = false;
  main_only = false;
  held = ∣ (record { in_service = false; pending = None }, refl) ∣₁;
}

abbrev zero_registers : DccLocoRegisters
zero_registers = record {
  address_kind = 0;
  speed_mode = 0;
  step = 0;
  forward = false;
  address = 0;
  pending = zero_frame;
  functions = replicate 2 0;
  states = replicate 2 0;
}

abbrev no_registers : LocoRegisters
no_registers =
    record { functions = 0; states = 0; pending = None; address = None; speed = Stop; forward = false }

zeros_are_registers : HeldBy zero_registers
zeros_are_registers = (no_registers, record { possible = refl; numbers = refl })

abbrev zero_loco : DccLoco
zero_loco = record { registers = zero_registers; cvs = replicate 1024 0 }

abbrev zero_decoder : DccDecoder
zero_decoder = record { loco = record { loco = zero_loco; held = zeros_are_registers }; part = zero_part }

zeros_are_a_decoder : IsDecoder zero_decoder (new_track (loco_state_in zero_decoder.loco) false)
zeros_are_a_decoder =
    is_decoder zero_decoder (new_track (loco_state_in zero_decoder.loco) false) refl
    (record { service = refl; changed = refl; main_only = refl })

-- an accessory decoder of zeros has the address 0

abbrev zero_board : DccBoard
zero_board = record { number = 0; outs = 0; positions = replicate 4 false; aspects = replicate 4 0 }

abbrev no_outputs : BoardState
no_outputs = record {
  board = record { number = 0; in_range = lit≤ tt };
  outs = 0;
  positions = replicate 4 false;
  aspects = replicate 4 0;
}

zeros_are_a_board : HeldBoard zero_board
zeros_are_a_board = (no_outputs, refl)

abbrev zero_board_decoder : DccBoardDecoder
zero_board_decoder =
    record { board = record { board = zero_board; cvs = replicate 1024 0; held = zeros_are_a_board }; part = zero_part }

zeros_are_a_board_decoder : IsBoardDecoder zero_board_decoder
    (new_track (board_state_in zero_board_decoder.board) false)
zeros_are_a_board_decoder =
    is_board_decoder zero_board_decoder (new_track (board_state_in zero_board_decoder.board) false) refl
    (record { service = refl; changed = refl; main_only = refl })
