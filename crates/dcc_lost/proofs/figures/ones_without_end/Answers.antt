use Rattle.std.proofs.Common.{◌≡◌, ◌-◌, inl, inr, arith, length}
use Rattle.std.proofs.lemmas.Bool.{cases_lt}
use Rattle.dcc_lost.proofs.OneFigures.{no_frame_ends}
use Rattle.dcc_lost.proofs.figures.ones_without_end.Goals as goal

pub ones-init : goal.ones-init
ones-init c = record { few = omega arith; quiet = λ n none. absurd (omega (arith, none)) }

pub ones-preserved : goal.ones-preserved
ones-preserved c = record {
  few = omega (arith, c.ones-test.true);
  quiet = λ n few ends. elim (cases_lt n c.ones.count) [
    | inl before ↦ c.ones.invariant.quiet n before ends
    | inr here ↦
        let same : n ≡ c.ones.count = omega (arith, few, here) in
        let yes = c.can_end_frame.ensures.1 (rw same at ends) in absurd (grind arith)
  ];
}

pub returns-then-can_end_frame-clause-quiet : goal.returns-then-can_end_frame-clause-quiet
returns-then-can_end_frame-clause-quiet c = λ durations halves is all some few.
    no_frame_ends durations halves all (length halves - 1) (omega (arith, some)) (rw is at c.if-last-ne130.false)
    (λ below ends. c.ones.invariant.quiet (length halves - 1) (omega (arith, some, few)) (rw is ends))

pub returns-clause-quiet : goal.returns-clause-quiet
returns-clause-quiet c = λ durations halves is all some few.
    no_frame_ends durations halves all (length halves - 1) (omega (arith, some)) (rw is at c.if-last-ne130.false)
    (λ below ends. c.ones.invariant.quiet (length halves - 1) (omega (arith, below, c.ones-test.false)) (rw is ends))
