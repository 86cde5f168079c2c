use Rattle.dcc_timing.proofs.TallyLemmas.{first_within}
use Rattle.dcc_timing.proofs.tally.Tally.cover.Goals as goal

pub returns-then-number-self-clause-first : goal.returns-then-number-self-clause-first
returns-then-number-self-clause-first c = λ numbers is none.
    first_within c.args.self.now c.args.number numbers is none c.if-self-number.true c.if-number-self.true
