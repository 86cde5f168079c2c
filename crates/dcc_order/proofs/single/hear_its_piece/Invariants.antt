use Rattle.std.proofs.Common.{ℕ, List, ◌++◌, take}
use Rattle.dcc_wire.specs.Framing.{StandsFor}
use Rattle.dcc_regs.specs.Result.{RegisterMap}
use Rattle.dcc_regs.specs.declared.register.Who.{Who}
use Rattle.dcc_order.specs.Hearing.{HasHeardHalves}
use Rattle.dcc_order.proofs.single.hear_its_piece.Given as goal

abbrev pub invariant-loop-us : goal.invariant-loop-us
invariant-loop-us g l = record {
  stands : (halves : List ℕ) → StandsFor l.fn.framer halves
      → StandsFor l.framer (halves ++ take l.us-index l.durations);
  since : (halves : List ℕ) → StandsFor l.fn.framer halves → (start : Who) (registers : RegisterMap) →
      HasHeardHalves halves start registers (g.D.Decoder.who l.initial.decoder)
      (g.D.Decoder.registers l.initial.decoder)
      → HasHeardHalves (halves ++ take l.us-index l.durations) start registers (g.D.Decoder.who l.decoder)
      (g.D.Decoder.registers l.decoder);
}
