use Rattle.std.proofs.Common.{◌≡◌, ◌%◌, ◌≤◌, inl, inr, refl, arith, true, false}
use Rattle.std.proofs.lemmas.Bool.Decides.{nat_tests}
use Rattle.dcc_wire.specs.contracts.halves.Halves.{the_view}
use Rattle.dcc_wire.specs.HalvesLeft.{HasBitToTake}
use Rattle.dcc_wire.proofs.StepLemmas.{two_of_preamble, two_of_body, highest_bit}
use Rattle.dcc_wire.proofs.halves.Halves.take_bit.Goals.{then-one, else-one}
use Rattle.dcc_wire.proofs.halves.Halves.take_bit.Goals as goal

pub returns-then-self-gt0-clause-bit : goal.returns-then-self-gt0-clause-bit
returns-then-self-gt0-clause-bit c =
    rw (← c.self.view_is)
    (two_of_preamble (the_view c.self.inside) (omega (arith, c.if-self-gt0.true, c.if-self-eq1.false)))

pub returns-then-self-gt0-clause-some : goal.returns-then-self-gt0-clause-some
unfolding HasBitToTake
returns-then-self-gt0-clause-some c =
    rw (← c.self.view_is) (λ _. inl (omega (arith, c.if-self-gt0.true, c.if-self-eq1.false)), λ _. refl)

pub returns-clause-bit : goal.returns-clause-bit
returns-clause-bit c =
    let s = the_view c.self.inside in
    let none : s.ones ≡ 0 = omega (arith, c.if-self-gt0.false) in
    let some : 2 ≤ s.body = omega (arith, c.if-self-eq0.false) in
    let even : s.body % 2 ≡ 0 = omega (arith, c.if-self-eq1-2.false) in
    let both = two_of_body s none some even in
    elim c.if-one.branch [
      | then-one w ↦
          let e : highest_bit s.bits ≡ true = grind (arith, nat_tests, w.if-one.true) in
          rw (← c.self.view_is, w.result-is) (rw e at both)
      | else-one w ↦
          let e : highest_bit s.bits ≡ false = grind (arith, nat_tests, w.if-one.false) in
          rw (← c.self.view_is, w.result-is) (rw e at both)
    ]

pub returns-clause-some : goal.returns-clause-some
unfolding HasBitToTake
returns-clause-some c =
    rw (← c.self.view_is) (
      λ _. inr (
        omega (arith, c.if-self-gt0.false),
        omega (arith, c.if-self-eq0.false),
        omega (arith, c.if-self-eq1-2.false),
      ),
      λ _. refl,
    )
