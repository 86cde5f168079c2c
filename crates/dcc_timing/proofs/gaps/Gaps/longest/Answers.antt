use Rattle.std.proofs.Common.{arith}
use Rattle.dcc_timing.proofs.GapLemmas.{longest_none, longest_some}
use Rattle.dcc_timing.proofs.gaps.Gaps.longest.Goals as goal

pub returns-then-self-lt2 : goal.returns-then-self-lt2
returns-then-self-lt2 c = λ ends are. longest_none c.args.self.now ends are c.if-self-lt2.true

pub returns : goal.returns
returns c = λ ends are. longest_some c.args.self.now ends are (omega (arith, c.if-self-lt2.false))
