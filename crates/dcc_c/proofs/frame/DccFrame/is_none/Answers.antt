use Rattle.std.proofs.Common.{arith}
use Rattle.dcc_c.proofs.FrameLemmas.{Decides-none}
use Rattle.dcc_c.proofs.frame.DccFrame.is_none.Goals as goal

pub returns : goal.returns
returns c = Decides-none c.args.self.now _ _ (omega arith) (omega arith) (omega arith)
