use Rattle.std.proofs.Common.{ap}
use Rattle.dcc_packet.specs.Cvs.{cv_in}
use Rattle.dcc_regs.specs.declared.register.Who.TheVariants.{Loco as LocoWho}
use Rattle.dcc_regs.proofs.loco_registers.LocoRegisters.powered_up.Goals as goal

pub returns-clause-who : goal.returns-clause-who
returns-clause-who c cvs have = ap LocoWho (c.address_of_cvs.ensures.address (cv_in cvs) have)
