use Rattle.std.proofs.Common.{map, take}
use Rattle.dcc_wire.specs.Framing.{StandsFor}
use Rattle.dcc_order.specs.Fleets.{HaveHeardSince}
use Rattle.dcc_order.specs.Hearing.{whole_track}
use Rattle.dcc_order.proofs.alike_tracks.hear_track.Given as goal

-- the members have heard the pieces so far
abbrev pub invariant-loop-piece : goal.invariant-loop-piece
invariant-loop-piece g l = record {
  stands : StandsFor l.framer (whole_track (take l.piece-index l.pieces));
  since : HaveHeardSince g.D.Decoder.who g.D.Decoder.registers
      (map (λ decoder. (g.D.Decoder.who decoder, g.D.Decoder.registers decoder)) l.fn.decoders)
      (whole_track (take l.piece-index l.pieces)) l.decoders;
}
