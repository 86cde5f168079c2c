use Rattle.std.proofs.Common.{sym, subst}
use Rattle.std.specs.Prelude.{Some}
use Rattle.dcc_packet.specs.declared.cv.CvNumber.{CvNumber}
use Rattle.dcc_service.specs.AccessedServiceCv.{Accesses}
use Rattle.dcc_service.specs.Progress.{state_with_cvs}
use Rattle.dcc_service.proofs.ExecuteLemmas.{executed_accesses, silent_accesses}
use Rattle.dcc_service.proofs.progress.ServiceProgress.accessed_cv.Goals as goal

pub returns-in-Some : goal.returns-in-Some
returns-in-Some c cvs =
    subst (λ (cv : CvNumber). Accesses (state_with_cvs c.args.self.now cvs) c.args.frame.now (Some cv))
    (sym c.service_cv.ensures) (executed_accesses c.in-Some.packet _ _ (c.in-Some.ensures.executed cvs))

pub returns-in-None : goal.returns-in-None
returns-in-None c cvs = silent_accesses _ _ (c.in-None.ensures.none cvs)
