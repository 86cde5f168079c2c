-- How many digits numbers have, and how pieces of a text are put together.
use Rattle.std.proofs.Common.{◌≡◌, ◌++◌, ◌∙◌, List, ap, append_assoc, ℕ, ◌<◌, ◌≤◌, length, decimal, arith}
use Rattle.std.proofs.lemmas.Fmt.{length-decimal-le}

pub of_two : (n : ℕ) → n < 100 → length (decimal n) ≤ 2
of_two n small = length-decimal-le 2 n (omega arith) (omega arith) (omega arith)

pub of_byte : (n : ℕ) → n < 256 → length (decimal n) ≤ 3
of_byte n small = length-decimal-le 3 n (omega arith) (omega arith) (omega arith)

pub of_number : (n : ℕ) → n < 65536 → length (decimal n) ≤ 5
of_number n small = length-decimal-le 5 n (omega arith) (omega arith) (omega arith)

pub of_eight : (n : ℕ) → n < 100000000 → length (decimal n) ≤ 8
of_eight n small = length-decimal-le 8 n (omega arith) (omega arith) (omega arith)

-- two pieces one after the other
pub joined : (a b c x y : List ℕ) → b ≡ a ++ x → c ≡ b ++ y → c ≡ a ++ (x ++ y)
joined a b c x y first second = second ∙ ap (λ l. l ++ y) first ∙ append_assoc a x y
