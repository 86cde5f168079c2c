use Rattle.std.proofs.Common.{refl, ap}
use Rattle.dcc_service.specs.Progress.{state_with_cvs}
use Rattle.dcc_c.specs.declared.service.DccService.{DccService}
use Rattle.dcc_c.specs.declared.service.DccSmallService.{DccSmallService}
use Rattle.dcc_c.proofs.ApplyLemmas.{same_service, same_some, stepped}
use Rattle.dcc_c.proofs.service.dcc_service_apply.Goals as goal

pub returns-in-Some-clause-steps : goal.returns-in-Some-clause-steps
returns-in-Some-clause-steps c ok before e =
    let was = same_service c.in-Some.progress c.args.service.now before
    (same_some c.in-Some.progress _ c.progress_of.result c.in-Some.is
    (c.progress_of.ensures.found before (ap (λ (s : DccService). s.progress) e))) e in (
      state_with_cvs c.apply.new.self c.apply.new.cvs,
      ap (λ (p : DccSmallService). record c.args.service.now { progress = p; cvs = c.apply.new.cvs })
          (c.put.ensures c.apply.new.cvs),
      refl,
      stepped before _ _ _ _ _ was c.in-Ok.ensures.valid.1 c.apply.ensures,
    )

pub returns-in-Some-clause-decoder : goal.returns-in-Some-clause-decoder
returns-in-Some-clause-decoder c ok =
    let cvs = c.args.service.now.cvs in (
      state_with_cvs c.in-Some.progress cvs,
      ap (λ (p : DccSmallService). record c.args.service.now { progress = p }) (c.in-Some.ensures.numbers cvs),
    )
