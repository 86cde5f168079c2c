use Rattle.std.proofs.Common.{◌∙◌, refl}
use Rattle.dcc_c.proofs.ApplyLemmas.{same_some}
use Rattle.dcc_c.proofs.small_loco.dcc_small_loco_cv.Goals as goal

pub returns-in-Some-clause-tells : goal.returns-in-Some-clause-tells
returns-in-Some-clause-tells c ok state is =
    let h = c.accessed_cv.ensures.tells state is in
    (h.0, h.1 ∙ c.in-Ok.ensures.0, same_some c.in-Some.number _ c.accessed_cv.result c.in-Some.is h.2, refl)
