use Rattle.std.proofs.Common.{ap, ◌∙◌}
use Rattle.std.specs.Prelude.{Some}
use Rattle.dcc_packet.proofs.Same.{same_cv}
use Rattle.dcc_c.specs.declared.writer.DccWriter.{DccWriter}
use Rattle.dcc_c.proofs.writer.taken_up.Goals as goal

pub returns-in-Ok-clause-found : goal.returns-in-Ok-clause-found
returns-in-Ok-clause-found c so_far is =
    let cv = same_cv c.in-Ok.cv so_far.cv (c.in-Ok.ensures.ok ∙ ap (λ (w : DccWriter). w.cv) is) in
    let value = ap (λ (w : DccWriter). w.value) is in
    let verifying = ap (λ (w : DccWriter). w.is_verifying) is in
    ap Some (c.restore.ensures ∙ λ i. record { cv = cv i; value = value i; is_verifying = verifying i })
