use Rattle.std.proofs.Common.{◌+◌, ◌-◌, length}
use Rattle.dcc_order.proofs.FleetLemmas.{hear_more}
use Rattle.dcc_order.proofs.hearing.hear_half_run.Goals as goal

pub returns-clause-since : goal.returns-clause-since
returns-clause-since g c =
    hear_more _ _ (λ halves. length halves + c.push_run-run.result.at - 1) c.push_run-run.ensures.sees
    c.hear_seen.ensures
