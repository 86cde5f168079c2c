-- The least and the greatest number of a list, and the differences in a list.
use Rattle.std.specs.Prelude.{ℕ, ◌-◌, min, max, List, [], ◌∷◌, length, drop, fold, Option, None, Some}

-- the least number of a list, or `None` if the list is empty
unfoldable pub least : List ℕ → Option ℕ
least [] = None
least (number ∷ numbers) = Some (fold min number numbers)

unfoldable pub most : List ℕ → Option ℕ
most [] = None
most (number ∷ numbers) = Some (fold max number numbers)

-- the last `n` numbers of a list, or all its numbers if it has fewer
abbrev pub keep_last : ℕ → List ℕ → List ℕ
keep_last n numbers = drop (length numbers - n) numbers

-- the differences between each number of a list and the number before it
unfoldable pub steps : List ℕ → List ℕ
steps [] = []
steps (number ∷ []) = []
steps (number ∷ next ∷ numbers) = (next - number) ∷ steps (next ∷ numbers)
