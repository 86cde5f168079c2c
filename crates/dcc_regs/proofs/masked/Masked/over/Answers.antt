use Rattle.dcc_regs.proofs.MaskLemmas.{over_bit}
use Rattle.dcc_regs.proofs.masked.Masked.over.Goals as goal

pub returns-else-self-eq0 : goal.returns-else-self-eq0
returns-else-self-eq0 c n = over_bit c.args.word c.args.self.now.mask c.args.self.now.bits n
