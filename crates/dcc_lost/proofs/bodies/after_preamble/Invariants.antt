use Rattle.std.proofs.Common.{◌≤◌, ◌-◌, replicate}
use Rattle.dcc_wire.specs.Framing.{StandsFor}
use Rattle.dcc_wire.specs.Kept.{kept_rest}
use Rattle.dcc_lost.proofs.bodies.after_preamble.Given as goal

abbrev pub invariant-ones : goal.invariant-ones
invariant-ones l = record { few : l.ones ≤ 20; stands : StandsFor (kept_rest l.framer) (replicate l.ones 58) }

abbrev pub decreases-ones : goal.decreases-ones
decreases-ones l = 20 - l.ones
