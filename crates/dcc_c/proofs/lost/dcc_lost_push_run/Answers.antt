use Rattle.std.proofs.Common.{◌∙◌, ◌++◌, ap, replicate, sym}
use Rattle.dcc_lost.specs.Causes.{packets_lost, report_lost}
use Rattle.dcc_lost.proofs.RunLemmas.{run_quiet}
use Rattle.dcc_c.proofs.lost.dcc_lost_push_run.Goals as goal

pub returns-in-None-clause-none : goal.returns-in-None-clause-none
returns-in-None-clause-none c = λ halves follows none.
    ap (λ n. packets_lost (halves ++ replicate n c.args.us)) (sym (c.push_run-lost.ensures.nothing c.in-None.is))
    ∙ run_quiet halves c.args.us c.push_run-lost.result.at _ c.push_run-lost.result.lost c.in-None.is
    (c.push_run-lost.ensures.grows halves follows)

pub returns-in-Some-clause-some : goal.returns-in-Some-clause-some
unfolding report_lost
returns-in-Some-clause-some c = λ halves follows some. (
  c.in-Some.lost,
  rw c.in-Some.is at (c.push_run-lost.ensures.grows halves follows),
  c.lost_numbers.ensures,
)
