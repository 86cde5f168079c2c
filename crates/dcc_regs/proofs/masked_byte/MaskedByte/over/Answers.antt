use Rattle.dcc_regs.proofs.MaskLemmas.{over_bit}
use Rattle.dcc_regs.proofs.masked_byte.MaskedByte.over.Goals as goal

pub returns : goal.returns
returns c n = over_bit c.args.byte c.args.self.now.mask c.args.self.now.bits n
