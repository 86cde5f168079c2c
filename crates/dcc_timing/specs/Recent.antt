-- The last numbers of a list, as an array stores them.
use Rattle.std.specs.Prelude.{ℕ, List, take}
use Rattle.dcc_timing.specs.declared.recent.LastNumbers.{LastNumbers}
use Rattle.dcc_timing.specs.Numbers.{keep_last}

-- the numbers that `recent` represents: the last 130 of the numbers at its first `len` places
unfoldable pub recent_numbers : LastNumbers → List ℕ
recent_numbers recent = keep_last 130 (take recent.len recent.numbers)
