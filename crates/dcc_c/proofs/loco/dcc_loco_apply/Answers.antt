use Rattle.std.proofs.Common.{refl}
use Rattle.dcc_c.proofs.loco.dcc_loco_apply.Goals as goal

pub returns-then-apply-clause-applies : goal.returns-then-apply-clause-applies
returns-then-apply-clause-applies c ok before possible e =
    let h = c.apply.ensures.applies before possible e in
    (h.0, h.1, h.2, h.3, h.4, refl, h.6)
