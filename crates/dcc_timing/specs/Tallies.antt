-- The count, sum, least number, greatest number and mean of a list of numbers.
use Rattle.std.specs.Prelude.{◌≡◌, ℕ, ◌*◌, ◌/◌, ◌%◌, List, [], ◌∷◌, length, sum, Option, None, Some}
use Rattle.std.specs.Prelude.{unwrap_or}
use Rattle.dcc_timing.specs.declared.tally.Tally.{Tally}
use Rattle.dcc_timing.specs.declared.tally.Mean.{Mean}
use Rattle.dcc_timing.specs.Numbers.{least, most}

-- the quotient of `total` and `count`, rounded down to hundredths
abbrev pub quotient : ℕ → ℕ → Mean
quotient total count = record { whole = total / count; hundredths = 100 * (total % count) / count }

-- the mean of a list of numbers, or `None` if the list is empty
unfoldable pub mean : List ℕ → Option Mean
mean [] = None
mean (number ∷ numbers) = Some (quotient (sum (number ∷ numbers)) (length (number ∷ numbers)))

-- `tally` has the count, the sum, the least number and the greatest number of the list `numbers`. If
-- the list is empty, the least and the greatest number are 0.
pub record IsTally (tally : Tally) (numbers : List ℕ) : Type 0 where
  pub count : tally.count ≡ length numbers
  pub total : tally.sum ≡ sum numbers
  pub lowest : tally.least ≡ unwrap_or (least numbers) 0
  pub highest : tally.most ≡ unwrap_or (most numbers) 0
