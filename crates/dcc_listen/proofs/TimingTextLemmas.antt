-- How the lines of a text are put together.
use Rattle.std.proofs.Common.{◌≡◌, ◌++◌, ◌∙◌, List, ap, append_assoc, ℕ, ◌<◌, ◌≤◌, ◌^◌, length, decimal, arith}
use Rattle.std.proofs.lemmas.Fmt.{length-decimal-le}

-- numbers of 64 bits have 20 digits at most
pub decimal_is_short : (n : ℕ) → n < 2 ^ 64 → length (decimal n) ≤ 20
decimal_is_short n small = length-decimal-le 20 n (omega arith) (omega arith) (omega arith)

-- more behind what was added
pub joined : (a b c x y : List ℕ) → b ≡ a ++ x → c ≡ b ++ y → c ≡ a ++ (x ++ y)
joined a b c x y first second = second ∙ ap (λ l. l ++ y) first ∙ append_assoc a x y
