use Rattle.dcc_regs.proofs.Packing.{high_bits}
use Rattle.dcc_regs.proofs.loco_state.states_in.Goals as goal

pub returns-clause-bits : goal.returns-clause-bits
returns-clause-bits c n h = high_bits c.args.bits n h
