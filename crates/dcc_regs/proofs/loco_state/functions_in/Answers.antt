use Rattle.std.proofs.Common.{refl, arith}
use Rattle.dcc_regs.proofs.Packing.{low_bits, low_below}
use Rattle.dcc_regs.proofs.loco_state.functions_in.Goals as goal

pub returns-clause-bits : goal.returns-clause-bits
returns-clause-bits c n h = low_bits c.args.bits _ 69 n refl (omega arith)

pub returns-clause-small : goal.returns-clause-small
returns-clause-small c = low_below c.args.bits _ 69 refl
