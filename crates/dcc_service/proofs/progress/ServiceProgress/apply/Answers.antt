use Rattle.std.proofs.Common.{sym, subst}
use Rattle.dcc_service.specs.declared.progress.ServiceProgress.{ServiceProgress}
use Rattle.dcc_service.specs.Machine.{Step}
use Rattle.dcc_service.specs.Progress.{state_with_cvs}
use Rattle.dcc_service.proofs.ExecuteLemmas.{executed_step}
use Rattle.dcc_service.proofs.progress.ServiceProgress.apply.Goals as goal

pub returns-in-Some : goal.returns-in-Some
returns-in-Some c =
    subst (λ (p : ServiceProgress).
    Step (state_with_cvs c.args.self.now c.args.cvs.now) c.args.frame.now (state_with_cvs p c.act.new.cvs) c.act.result)
    (sym c.in-Some.ensures.stays)
    (executed_step c.in-Some.packet (state_with_cvs c.args.self.now c.args.cvs.now) _ _ _
    (c.in-Some.ensures.executed c.args.cvs.now) c.act.ensures.after c.act.ensures.answer)
