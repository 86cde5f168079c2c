-- The first half-bits of an array, after the half-bits before them.
use Rattle.std.proofs.Common.{◌≡◌, ◌<◌, ◌+◌, ◌-◌, ◌++◌, ◌∷◌, [], ℕ, List, length, take, slice_index_or, sym, ◌∙◌, ap}
use Rattle.std.proofs.Common.{arith, append_assoc, length-append}
use Rattle.std.proofs.lemmas.List.{take_more, length-take-le}

-- one more half-bit of an array
pub one_more : (track halves : List ℕ) (at : ℕ) → at < length halves
    → (track ++ take at halves) ++ slice_index_or halves at 0 ∷ [] ≡ track ++ take (at + 1) halves
one_more track halves at inside =
    append_assoc track (take at halves) (slice_index_or halves at 0 ∷ [])
    ∙ ap (λ l. track ++ l) (sym (take_more halves at 0 inside))

-- the number of half-bits before it
pub length_before : (track halves : List ℕ) (at : ℕ) → at < length halves
    → length (track ++ take at halves) ≡ length track + at
length_before track halves at inside =
    omega (arith, length-append track (take at halves), length-take-le at halves (omega (arith, inside)))

-- the place of the last of these half-bits
pub last_place : (track halves : List ℕ) (at : ℕ) → at < length halves
    → length (track ++ take at halves) ≡ length track + (at + 1) - 1
last_place track halves at inside = omega (arith, length_before track halves at inside)
