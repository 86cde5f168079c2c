-- Up to six bytes, one by one, with zeros behind them.
use Rattle.std.proofs.Common.{◌≡◌, ℕ, ◌-◌, ◌≤◌, List, [], ◌∷◌, ◌++◌, length, take, get_or, replicate, refl, arith}
use Rattle.dcc_wire.specs.Padded.{IsPadded}

-- the byte at each of six places, or zero
abbrev pub six : List ℕ → List ℕ
six xs = get_or xs 0 0 ∷ get_or xs 1 0 ∷ get_or xs 2 0 ∷ get_or xs 3 0 ∷ get_or xs 4 0 ∷ get_or xs 5 0 ∷ []

pub padded_front : (xs : List ℕ) → length xs ≤ 6 → take (length xs) (six xs) ≡ xs
padded_front [] few = refl
padded_front (a ∷ []) few = refl
padded_front (a ∷ b ∷ []) few = refl
padded_front (a ∷ b ∷ c ∷ []) few = refl
padded_front (a ∷ b ∷ c ∷ d ∷ []) few = refl
padded_front (a ∷ b ∷ c ∷ d ∷ e ∷ []) few = refl
padded_front (a ∷ b ∷ c ∷ d ∷ e ∷ f ∷ []) few = refl
padded_front (a ∷ b ∷ c ∷ d ∷ e ∷ f ∷ g ∷ xs) few = absurd (omega (arith, few))

pub padded_zeros : (xs : List ℕ) → length xs ≤ 6 → IsPadded (six xs) (length xs)
padded_zeros xs few = record { whole = refl; within = few; zeros = zeros xs few }
  where
    zeros : (xs : List ℕ) → length xs ≤ 6 → six xs ≡ take (length xs) (six xs) ++ replicate (6 - length xs) 0
    zeros [] few = refl
    zeros (a ∷ []) few = refl
    zeros (a ∷ b ∷ []) few = refl
    zeros (a ∷ b ∷ c ∷ []) few = refl
    zeros (a ∷ b ∷ c ∷ d ∷ []) few = refl
    zeros (a ∷ b ∷ c ∷ d ∷ e ∷ []) few = refl
    zeros (a ∷ b ∷ c ∷ d ∷ e ∷ f ∷ []) few = refl
    zeros (a ∷ b ∷ c ∷ d ∷ e ∷ f ∷ g ∷ xs) few = absurd (omega (arith, few))
