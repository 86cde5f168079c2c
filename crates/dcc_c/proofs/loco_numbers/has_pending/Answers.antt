use Rattle.std.specs.Prelude.{Some}
use Rattle.dcc_c.proofs.loco_numbers.has_pending.Goals as goal

pub returns-clause-pending : goal.returns-clause-pending
returns-clause-pending c true own has =
    let p = c.has_pending_write.ensures.pending true own has in
    (Some p.0, p.1, p.2)
