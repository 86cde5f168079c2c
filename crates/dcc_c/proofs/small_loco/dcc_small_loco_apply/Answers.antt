use Rattle.std.proofs.Common.{◌∙◌, refl}
use Rattle.dcc_c.proofs.small_loco.dcc_small_loco_apply.Goals as goal

pub returns-then-apply-clause-applies : goal.returns-then-apply-clause-applies
returns-then-apply-clause-applies c ok before is =
    let h = c.apply.ensures.applies before is in
    (h.0, h.1 ∙ c.in-Ok.ensures.0, refl, h.3, h.4)
