use Rattle.std.proofs.Common.{◌≡◌, ◌≤◌, ◌-◌, ◌++◌, ℕ, List, length, take}
use Rattle.dcc_timing.specs.Numbers.{keep_last}
use Rattle.dcc_timing.specs.Recent.{recent_numbers}
use Rattle.dcc_timing.proofs.recent.LastNumbers.append.Given as goal

abbrev pub invariant-numbers : goal.invariant-numbers
invariant-numbers l = record {
  inside : l.at ≤ length l.numbers;
  taken : (list : List ℕ) → recent_numbers l.initial.self ≡ keep_last 130 list
      → recent_numbers l.self ≡ keep_last 130 (list ++ take l.at l.numbers);
}

abbrev pub decreases-numbers : goal.decreases-numbers
decreases-numbers l = length l.numbers - l.at
