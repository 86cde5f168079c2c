use Rattle.std.proofs.Common.{◌≡◌, ◌≤◌, ◌+◌, ◌-◌, ◌++◌, ℕ, List, length, take}
use Rattle.dcc_lost.specs.Preambles.{nearest_ones_at_end}
use Rattle.dcc_lost.proofs.figures.ones_after.Given as goal

abbrev pub invariant-ones : goal.invariant-ones
invariant-ones l = record {
  inside : l.at ≤ length l.halves;
  all_ones : (durations : List ℕ) → nearest_ones_at_end (durations ++ l.halves)
      ≡ nearest_ones_at_end (durations ++ take l.at l.halves) + (length l.halves - l.at);
}

abbrev pub decreases-ones : goal.decreases-ones
decreases-ones l = l.at
