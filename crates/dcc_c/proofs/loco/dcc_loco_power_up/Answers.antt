use Rattle.std.proofs.Common.{ap}
use Rattle.dcc_regs.specs.LocoRegisters.{with_cvs}
use Rattle.dcc_c.specs.declared.loco_numbers.DccLocoRegisters.{DccLocoRegisters}
use Rattle.dcc_c.proofs.loco.dcc_loco_power_up.Goals as goal

pub returns-clause-new : goal.returns-clause-new
returns-clause-new c = (
  with_cvs c.new-registers.result c.args.loco.now.cvs,
  c.new-registers.ensures.possible,
  ap (λ (r : DccLocoRegisters). record c.args.loco.now { registers = r }) c.put.ensures,
  c.new-registers.ensures.who,
  c.new-registers.ensures.registers,
)
