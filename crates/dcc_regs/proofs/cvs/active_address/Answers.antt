use Rattle.std.proofs.Common.{refl}
use Rattle.dcc_packet.specs.Cvs.{cv_in}
use Rattle.dcc_regs.proofs.cvs.active_address.Goals as goal

pub returns-clause-address : goal.returns-clause-address
returns-clause-address c =
    c.address_of_cvs.ensures.address (cv_in c.args.cvs.now)
    (record { cv1 = refl; cv17 = refl; cv18 = refl; cv29 = refl })
