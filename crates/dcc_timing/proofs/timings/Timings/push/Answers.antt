use Rattle.std.proofs.Common.{◌≡◌, IsTrue, false, append-nil, arith, subst, sym, ◌∙◌}
use Rattle.dcc_wire.specs.Framing.{report_at, seen}
use Rattle.dcc_timing.specs.Measures.{Measures}
use Rattle.dcc_timing.proofs.timings.Timings.push.Goals as goal

pub returns-then-pass-clause-measures : goal.returns-then-pass-clause-measures
returns-then-pass-clause-measures c =
    let yes : IsTrue c.pass.result = grind arith in
    c.pass.ensures.measures yes

pub returns-then-pass-clause-sees : goal.returns-then-pass-clause-sees
unfolding report_at
returns-then-pass-clause-sees c = λ halves are.
    let yes : IsTrue c.pass.result = grind arith in
    c.pass.ensures.sees yes halves are ∙ sym (append-nil (seen halves))

pub returns-clause-measures : goal.returns-clause-measures
returns-clause-measures c = λ halves are.
    let no : c.pass.result ≡ false = grind arith in
    c.push_shown.ensures.measures halves (subst (λ timings. Measures timings halves) (sym (c.pass.ensures.left no)) are)
