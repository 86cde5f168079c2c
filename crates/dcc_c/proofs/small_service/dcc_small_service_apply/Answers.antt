use Rattle.std.proofs.Common.{◌≡◌, refl}
use Rattle.std.specs.Prelude.{[]}
use Rattle.dcc_packet.specs.StoredCvs.{with_value}
use Rattle.dcc_service.specs.AccessedServiceCv.{Accesses}
use Rattle.dcc_service.specs.Progress.{state_with_cvs}
use Rattle.dcc_c.proofs.ApplyLemmas.{same_small_service, same_some}
use Rattle.dcc_c.proofs.small_service.dcc_small_service_apply.Goals as goal

pub returns-in-Some-clause-steps : goal.returns-in-Some-clause-steps
returns-in-Some-clause-steps c ok before e cv accesses has =
    let was : state_with_cvs c.in-Some.progress before.cvs ≡ before =
    same_small_service c.in-Some.progress before
    (same_some c.in-Some.progress _ c.progress_of.result c.in-Some.is (c.progress_of.ensures.found before e)) in
    let frame : c.in-Ok.frame ≡ c.args.frame.now = c.in-Ok.ensures.0 in
    let there : Accesses (state_with_cvs c.in-Some.progress before.cvs) c.in-Ok.frame cv =
    rw (was, frame) accesses in
    let cvs = with_value before.cvs cv c.apply_with_value.new.value in
    let step = c.apply_with_value.ensures.steps before.cvs cv there has in (
      state_with_cvs c.apply_with_value.new.self cvs,
      c.put.ensures cvs,
      refl,
      rw (← was, ← frame) step,
    )

pub returns-in-Some-clause-answers : goal.returns-in-Some-clause-answers
returns-in-Some-clause-answers c ok before e =
    let was : state_with_cvs c.in-Some.progress before.cvs ≡ before =
    same_small_service c.in-Some.progress before
    (same_some c.in-Some.progress _ c.progress_of.result c.in-Some.is (c.progress_of.ensures.found before e)) in
    let frame : c.in-Ok.frame ≡ c.args.frame.now = c.in-Ok.ensures.0 in (
      refl,
      λ accesses. c.apply_with_value.ensures.value_stays before.cvs (rw (was, frame) accesses),
    )

pub returns-in-Some-clause-decoder : goal.returns-in-Some-clause-decoder
returns-in-Some-clause-decoder c ok = (state_with_cvs c.in-Some.progress [], c.in-Some.ensures.numbers [])
