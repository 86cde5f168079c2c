use Rattle.std.proofs.Common.{arith}
use Rattle.dcc_regs.proofs.MaskLemmas.{all_ones}
use Rattle.dcc_regs.proofs.masked.Masked.new.Goals as goal

pub returns-then-on : goal.returns-then-on
returns-then-on c n = rw c.if-on.true (all_ones 128 c.args.mask n (omega (arith, c.ranges.mask)))
