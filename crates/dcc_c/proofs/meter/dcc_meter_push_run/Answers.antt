use Rattle.std.proofs.Common.{IsTrue, arith}
use Rattle.dcc_c.proofs.meter.dcc_meter_push_run.Goals as goal

pub returns-then-try_push_run-clause-takes : goal.returns-then-try_push_run-clause-takes
returns-then-try_push_run-clause-takes c = λ one halves are.
    let yes : IsTrue c.try_push_run.result = grind arith in
    c.try_push_run.ensures.measures yes halves are
