use Rattle.std.proofs.Common.{arith}
use Rattle.dcc_timing.proofs.TallyLemmas.{mean_none, mean_some}
use Rattle.dcc_timing.proofs.tally.Tally.mean.Goals as goal

pub returns-then-self-eq0-clause-mean : goal.returns-then-self-eq0-clause-mean
returns-then-self-eq0-clause-mean c = λ numbers is. mean_none c.args.self.now numbers is c.if-self-eq0.true

pub returns-clause-mean : goal.returns-clause-mean
returns-clause-mean c = λ numbers is. mean_some c.args.self.now numbers is (omega (arith, c.if-self-eq0.false))
