-- A walk over a list that writes one element at a time.
use Rattle.std.proofs.Common.{◌≡◌, ◌≢◌, ℕ, ◌+◌, ◌<◌, ◌≤◌, List, length, get_or, arith, below_more, get_or-set_other}
use Rattle.std.proofs.Common.{get_or-set_same}
use Rattle.std.proofs.Math.ListN.{set}

-- the element at n is written
pub written_more : {A : Type 0} (xs : List A) (n : ℕ) (y d : A) (f : ℕ → A) → n < length xs
    → ((k : ℕ) → k < n → get_or xs k d ≡ f k) → y ≡ f n
    → (k : ℕ) → k < n + 1 → get_or (set xs n y) k d ≡ f k
written_more xs n y d f h before here =
    below_more (λ k. get_or (set xs n y) k d ≡ f k) n
    (λ k lt. let ne : k ≢ n = omega arith in rw get_or-set_other (before k lt))
    (rw get_or-set_same here)

-- those behind it are left
pub left_more : {A : Type 0} (xs : List A) (n : ℕ) (y d : A) (f : ℕ → A) → ((k : ℕ) → n ≤ k → get_or xs k d ≡ f k)
    → (k : ℕ) → n + 1 ≤ k → get_or (set xs n y) k d ≡ f k
left_more xs n y d f before k h = let ne : k ≢ n = omega arith in rw get_or-set_other (before k (omega arith))
