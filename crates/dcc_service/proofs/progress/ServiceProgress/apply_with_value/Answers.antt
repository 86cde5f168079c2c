use Rattle.std.proofs.Common.{◌≡◌, sym, subst}
use Rattle.std.specs.Prelude.{Option, Some}
use Rattle.dcc_packet.specs.declared.cv.CvNumber.{CvNumber}
use Rattle.dcc_packet.specs.StoredCvs.{HasValue, with_value}
use Rattle.dcc_service.specs.declared.progress.ServiceProgress.{ServiceProgress}
use Rattle.dcc_service.specs.AccessedServiceCv.{service_cv}
use Rattle.dcc_service.specs.Machine.{Step}
use Rattle.dcc_service.specs.Progress.{state_with_cvs}
use Rattle.dcc_service.proofs.ExecuteLemmas.{executed_step}
use Rattle.dcc_service.proofs.progress.ServiceProgress.apply_with_value.Goals as goal

pub returns-in-Some-clause-steps : goal.returns-in-Some-clause-steps
returns-in-Some-clause-steps c cvs cv accesses has =
    let packet = c.in-Some.packet in
    let before = state_with_cvs c.args.self.now cvs in
    let is : cv ≡ Some (service_cv packet) = accesses.executed packet (c.in-Some.ensures.executed cvs) in
    let there = subst (λ (it : Option CvNumber). HasValue cvs it c.args.value.now) is has in
    let now = with_value cvs (Some (service_cv packet)) c.act_on.new.value in
    let done : Step before c.args.frame.now (state_with_cvs c.args.self.now now) c.act_on.result =
    executed_step packet before _ now _ (c.in-Some.ensures.executed cvs) (c.act_on.ensures.after cvs there)
    (c.act_on.ensures.answer cvs there) in
    subst (λ (it : Option CvNumber).
    Step before c.args.frame.now (state_with_cvs c.due.new.self (with_value cvs it c.act_on.new.value)) c.act_on.result)
    (sym is)
    (subst (λ (p : ServiceProgress). Step before c.args.frame.now (state_with_cvs p now) c.act_on.result)
    (sym c.in-Some.ensures.stays) done)

pub returns-in-Some-clause-value_stays : goal.returns-in-Some-clause-value_stays
returns-in-Some-clause-value_stays c cvs accesses =
    let is = accesses.executed c.in-Some.packet (c.in-Some.ensures.executed cvs) in absurd (cc)
