use Rattle.std.proofs.Common.{rules}
use Rattle.dcc_regs.proofs.loco.LocoDecoder.state.Goals as goal

-- src/loco.rt:77:5
pub returns-clause-registers : goal.returns-clause-registers
returns-clause-registers c = search (rules, c.registers.ensures.registers, c.with_cvs.ensures)
