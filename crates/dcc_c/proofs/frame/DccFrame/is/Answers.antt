use Rattle.std.proofs.Common.{arith}
use Rattle.dcc_c.proofs.FrameLemmas.{Decides-frame}
use Rattle.dcc_c.proofs.frame.DccFrame.is.Goals as goal

pub returns : goal.returns
returns c = Decides-frame c.args.self.now c.args.other.now (omega arith) (omega arith)
