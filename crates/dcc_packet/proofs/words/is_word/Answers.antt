use Rattle.std.proofs.Common.{◌≡◌, ℕ, ◌==◌, List, [], ◌∷◌, take, bytes_eq, refl, sym, ap, ◌∙◌, arith}
use Rattle.std.proofs.lemmas.Bool.Decides.{nat_tests}
use Rattle.std.proofs.Math.Seq.{take-length}
use Rattle.dcc_packet.proofs.words.is_word.Goals as goal

eq_turned : (x y : ℕ) → (x == y) ≡ (y == x)
eq_turned x y = grind (arith, nat_tests)

bytes_eq_turned : (xs ys : List ℕ) → bytes_eq xs ys ≡ bytes_eq ys xs
bytes_eq_turned [] [] = refl
bytes_eq_turned [] (y ∷ ys) = refl
bytes_eq_turned (x ∷ xs) [] = refl
bytes_eq_turned (x ∷ xs) (y ∷ ys) = rw (eq_turned x y, bytes_eq_turned xs ys) refl

pub returns-then-word-keyword : goal.returns-then-word-keyword
returns-then-word-keyword c =
    let word = c.args.word.now in
    let keyword = c.args.keyword.now in
    c.starts_with.ensures.value
    ∙ ap (λ n. bytes_eq keyword (take n word)) (sym c.if-word-keyword.true)
    ∙ ap (λ l. bytes_eq keyword l) (take-length word)
    ∙ bytes_eq_turned keyword word
