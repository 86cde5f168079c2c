use Rattle.std.proofs.Common.{◌<◌, ◌≤◌, ◌-◌, ℕ}
use Rattle.dcc_lost.specs.Inner.{CanEndFrame}
use Rattle.dcc_lost.proofs.figures.ones_without_end.Given as goal

abbrev pub invariant-ones : goal.invariant-ones
invariant-ones l = record {
  few : l.count ≤ 19;
  quiet : (n : ℕ) → n < l.count → CanEndFrame l.last n → ⊥;
}

abbrev pub decreases-ones : goal.decreases-ones
decreases-ones l = 19 - l.count
