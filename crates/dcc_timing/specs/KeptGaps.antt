-- The stored part of the times at which packets end. The longest gap follows from this part.
use Rattle.std.specs.Prelude.{◌≡◌, ℕ, min, List, length, fold, Option, None, Some, unwrap_or}
use Rattle.dcc_timing.specs.declared.gaps.Gaps.{Gaps}
use Rattle.dcc_timing.specs.Numbers.{most, steps}

-- the last number of a list, or `None` if the list is empty
unfoldable pub last : List ℕ → Option ℕ
last numbers = fold (λ (before : Option ℕ) number. Some number) None numbers

-- `gaps` has the last number of the list `ends`, and the greatest difference between two successive
-- numbers. If the list is too short for such a number, `gaps` has 0 instead.
pub record AreGaps (gaps : Gaps) (ends : List ℕ) : Type 0 where
  pub count : gaps.packets ≡ min 2 (length ends)
  pub end : gaps.end ≡ unwrap_or (last ends) 0
  pub longest : gaps.longest ≡ unwrap_or (most (steps ends)) 0
