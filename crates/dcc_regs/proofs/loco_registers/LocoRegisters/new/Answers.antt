use Rattle.std.proofs.Common.{refl}
use Rattle.dcc_regs.proofs.loco_registers.LocoRegisters.new.Goals as goal

pub returns-clause-possible : goal.returns-clause-possible
returns-clause-possible c = c.powered_up.ensures.possible c.args.cvs.now

pub returns-clause-registers : goal.returns-clause-registers
returns-clause-registers c = c.powered_up.ensures.registers c.args.cvs.now

pub returns-clause-who : goal.returns-clause-who
returns-clause-who c =
    c.powered_up.ensures.who c.args.cvs.now (record { cv1 = refl; cv17 = refl; cv18 = refl; cv29 = refl })
