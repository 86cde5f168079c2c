use Rattle.dcc_timing.proofs.TallyLemmas.{most_none, most_some}
use Rattle.dcc_timing.proofs.tally.Tally.most.Goals as goal

pub returns-then-self-eq0 : goal.returns-then-self-eq0
returns-then-self-eq0 c = λ numbers is. most_none c.args.self.now numbers is c.if-self-eq0.true

pub returns : goal.returns
returns c = λ numbers is. most_some c.args.self.now numbers is c.if-self-eq0.false
