use Rattle.std.proofs.Common.{◌≡◌, ◌+◌, ◌-◌, ◌%◌, ◌<◌, refl, arith, true, false}
use Rattle.std.proofs.lemmas.Bool.Decides.{nat_tests}
use Rattle.dcc_wire.specs.contracts.halves.Halves.{the_view}
use Rattle.dcc_wire.proofs.StepLemmas.{of_preamble, of_first, of_second, none_left, highest_bit}
use Rattle.dcc_wire.proofs.halves.Halves.take_half.Goals.{then-one, else-one, then-one-2, else-one-2}
use Rattle.dcc_wire.proofs.halves.Halves.take_half.Goals as goal

pub returns-then-self-gt0-clause-half : goal.returns-then-self-gt0-clause-half
returns-then-self-gt0-clause-half c =
    rw (← c.self.view_is) (of_preamble _ c.if-self-gt0.true, c.self.invariant.one (omega (arith, c.if-self-gt0.true)))

pub returns-then-self-eq0-clause-end : goal.returns-then-self-eq0-clause-end
returns-then-self-eq0-clause-end c =
    (rw (← c.self.view_is) (none_left _ (omega (arith, c.if-self-gt0.false)) c.if-self-eq0.true), refl)

pub returns-then-self-eq1-clause-half : goal.returns-then-self-eq1-clause-half
returns-then-self-eq1-clause-half c =
    let s = the_view c.self.inside in
    let none : s.ones ≡ 0 = omega (arith, c.if-self-gt0.false) in
    let left : 0 < s.body = omega (arith, c.if-self-eq0.false) in
    let some : 0 < s.ones + s.body = omega (arith, left) in
    let first = of_first s none left c.if-self-eq1.true in
    elim c.if-one.branch [
      | then-one w ↦
          let e : highest_bit s.bits ≡ true = grind (arith, nat_tests, w.if-one.true) in
          rw (← c.self.view_is, w.result-is) (rw e at first, c.self.invariant.one some)
      | else-one w ↦
          let e : highest_bit s.bits ≡ false = grind (arith, nat_tests, w.if-one.false) in
          rw (← c.self.view_is, w.result-is) (rw e at first, c.self.invariant.zero_first some)
    ]

pub returns-clause-half : goal.returns-clause-half
returns-clause-half c =
    let s = the_view c.self.inside in
    let none : s.ones ≡ 0 = omega (arith, c.if-self-gt0.false) in
    let left : 0 < s.body = omega (arith, c.if-self-eq0.false) in
    let some : 0 < s.ones + s.body = omega (arith, left) in
    let even : (s.body - 1) % 2 ≡ 0 = omega (arith, c.if-self-eq1.false) in
    let second = of_second s none left even in
    elim c.if-one-2.branch [
      | then-one-2 w ↦
          let e : highest_bit s.bits ≡ true = grind (arith, nat_tests, w.if-one-2.true) in
          rw (← c.self.view_is, w.result-is) (rw e at second, c.self.invariant.one some)
      | else-one-2 w ↦
          let e : highest_bit s.bits ≡ false = grind (arith, nat_tests, w.if-one-2.false) in
          rw (← c.self.view_is, w.result-is) (rw e at second, c.self.invariant.zero_second some)
    ]
