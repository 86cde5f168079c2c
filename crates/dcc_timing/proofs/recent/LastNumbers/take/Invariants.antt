use Rattle.std.proofs.Common.{◌≡◌, ◌≤◌, ◌-◌, ◌++◌, ℕ, List, replicate}
use Rattle.dcc_timing.specs.Numbers.{keep_last}
use Rattle.dcc_timing.specs.Recent.{recent_numbers}
use Rattle.dcc_timing.proofs.recent.LastNumbers.take.Given as goal

abbrev pub invariant-numbers : goal.invariant-numbers
invariant-numbers l = record {
  within : l.taken ≤ l.count;
  copies : (numbers : List ℕ) → recent_numbers l.initial.self ≡ keep_last 130 numbers
      → recent_numbers l.self ≡ keep_last 130 (numbers ++ replicate l.taken l.number);
}

abbrev pub decreases-numbers : goal.decreases-numbers
decreases-numbers l = l.count - l.taken
