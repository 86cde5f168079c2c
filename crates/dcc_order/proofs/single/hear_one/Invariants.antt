use Rattle.std.proofs.Common.{take}
use Rattle.dcc_wire.specs.Framing.{StandsFor}
use Rattle.dcc_order.specs.Hearing.{HasHeardHalves, whole_track}
use Rattle.dcc_order.proofs.single.hear_one.Given as goal

-- the decoder has heard the pieces so far
abbrev pub invariant-loop-piece : goal.invariant-loop-piece
invariant-loop-piece g l = record {
  stands : StandsFor l.framer (whole_track (take l.piece-index l.pieces));
  since : HasHeardHalves (whole_track (take l.piece-index l.pieces)) (g.D.Decoder.who l.initial.decoder)
      (g.D.Decoder.registers l.initial.decoder) (g.D.Decoder.who l.decoder) (g.D.Decoder.registers l.decoder);
}
