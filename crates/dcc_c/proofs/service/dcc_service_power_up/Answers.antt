use Rattle.std.proofs.Common.{ap}
use Rattle.dcc_c.specs.declared.service.DccSmallService.{DccSmallService}
use Rattle.dcc_c.proofs.service.dcc_service_power_up.Goals as goal

pub returns-clause-new : goal.returns-clause-new
returns-clause-new c =
    ap (λ (p : DccSmallService). record c.args.service.now { progress = p }) (c.leave.ensures c.args.service.now.cvs)
