use Rattle.std.proofs.Common.{map, take}
use Rattle.dcc_wire.specs.Kept.{kept_rest}
use Rattle.dcc_lost.specs.Nearest.{nearest_class}
use Rattle.dcc_lost.proofs.BodyLemmas.{IsAt}
use Rattle.dcc_lost.proofs.bodies.outcome_of.Given as goal

abbrev pub invariant-halves : goal.invariant-halves
invariant-halves l = IsAt (kept_rest l.framer) (map nearest_class (take l.us-index l.halves))
