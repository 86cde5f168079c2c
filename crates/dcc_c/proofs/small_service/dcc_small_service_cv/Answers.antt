use Rattle.std.proofs.Common.{◌≡◌, [], refl}
use Rattle.dcc_service.specs.AccessedServiceCv.{Accesses}
use Rattle.dcc_service.specs.Progress.{state_with_cvs}
use Rattle.dcc_c.proofs.ApplyLemmas.{same_small_service, same_some}
use Rattle.dcc_c.proofs.small_service.dcc_small_service_cv.Goals as goal

pub returns-in-Some-clause-tells : goal.returns-in-Some-clause-tells
returns-in-Some-clause-tells c ok state e =
    let was : state_with_cvs c.in-Some.progress state.cvs ≡ state =
    same_small_service c.in-Some.progress state
    (same_some c.in-Some.progress _ c.progress_of.result c.in-Some.is (c.progress_of.ensures.found state e)) in
    let frame : c.in-Ok.frame ≡ c.args.frame.now = c.in-Ok.ensures.0 in
    let accesses : Accesses state c.args.frame.now c.accessed_cv.result =
    rw (← was, ← frame) (c.accessed_cv.ensures state.cvs) in
    (c.accessed_cv.result, accesses, c.number_of.ensures, refl)

pub returns-in-Some-clause-decoder : goal.returns-in-Some-clause-decoder
returns-in-Some-clause-decoder c ok = (state_with_cvs c.in-Some.progress [], c.in-Some.ensures.numbers [])
