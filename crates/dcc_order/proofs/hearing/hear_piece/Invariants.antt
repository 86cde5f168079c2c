use Rattle.std.proofs.Common.{ℕ, List, ◌≤◌, ◌-◌, ◌++◌, length, take}
use Rattle.dcc_wire.specs.Framing.{StandsFor}
use Rattle.dcc_order.specs.Fleets.{HearMore}
use Rattle.dcc_order.proofs.hearing.hear_piece.Given as goal

abbrev pub invariant-pieces : goal.invariant-pieces
invariant-pieces g l = record {
  stands : (halves : List ℕ) → StandsFor l.fn.framer halves → StandsFor l.framer (halves ++ take l.at l.durations);
  since : HearMore g.D.Decoder.who g.D.Decoder.registers l.fn.framer (take l.at l.durations) l.fn.decoders l.decoders;
  inside : l.at ≤ length l.durations;
}

abbrev pub decreases-pieces : goal.decreases-pieces
decreases-pieces g l = length l.durations - l.at
