use Rattle.dcc_timing.proofs.TallyLemmas.{least_none, least_some}
use Rattle.dcc_timing.proofs.tally.Tally.least.Goals as goal

pub returns-then-self-eq0 : goal.returns-then-self-eq0
returns-then-self-eq0 c = λ numbers is. least_none c.args.self.now numbers is c.if-self-eq0.true

pub returns : goal.returns
returns c = λ numbers is. least_some c.args.self.now numbers is c.if-self-eq0.false
