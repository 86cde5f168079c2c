use Rattle.std.proofs.Common.{◌≡◌, ◌+◌, ◌<◌, ◌≤◌, ℕ, List, [], ◌∷◌, ◌++◌, length, take, sym, ap, ◌∙◌, arith}
use Rattle.std.proofs.Common.{append_assoc}
use Rattle.std.proofs.Math.ListN.{set}
use Rattle.std.proofs.lemmas.List.{take_more_set, length-set}
use Rattle.dcc_wire.specs.Sending.{durations_of}
use Rattle.dcc_c.proofs.halves.put_bit.Goals as goal
use Rattle.dcc_c.proofs.halves.put_bit.Goals.{then-one, else-one}

-- `a` and `b` are written after the first `n` numbers of `xs`
two_written : (xs : List ℕ) (n a b : ℕ) → n + 2 ≤ length xs
    → take (n + 2) (set (set xs n a) (n + 1) b) ≡ take n xs ++ (a ∷ b ∷ [])
two_written xs n a b room =
    let e : n + 2 ≡ (n + 1) + 1 = omega arith in
    let longer : n + 1 < length (set xs n a) = omega (arith, room, length-set xs n a) in
    ap (λ k. take k (set (set xs n a) (n + 1) b)) e
    ∙ take_more_set (set xs n a) (n + 1) b longer
    ∙ ap (λ l. l ++ b ∷ []) (take_more_set xs n a (omega (arith, room)))
    ∙ append_assoc (take n xs) (a ∷ []) (b ∷ [])

pub returns-clause-written : goal.returns-clause-written
unfolding durations_of
returns-clause-written c =
    let timing = c.args.timing.now in
    let front = take c.args.count c.args.halves.now in
    let h = two_written c.args.halves.now c.args.count c.if-one.first.0 c.if-one.first.1
    (omega (arith, c.requires.room, c.well_formed)) in
    elim c.if-one.branch [
      | then-one w ↦
          h ∙ ap (λ p. front ++ (p.0 ∷ p.1 ∷ [])) w.first-is
          ∙ ap (λ b. front ++ durations_of timing (b ∷ [])) (sym w.if-one.true)
      | else-one w ↦
          h ∙ ap (λ p. front ++ (p.0 ∷ p.1 ∷ [])) w.first-is
          ∙ ap (λ b. front ++ durations_of timing (b ∷ [])) (sym w.if-one.false)
    ]
