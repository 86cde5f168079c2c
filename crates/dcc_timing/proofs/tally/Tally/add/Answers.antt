use Rattle.std.proofs.Common.{rules}
use Rattle.dcc_timing.proofs.TallyLemmas.{tally_more}
use Rattle.dcc_timing.proofs.tally.Tally.add.Goals as goal

pub returns-clause-tally : goal.returns-clause-tally
returns-clause-tally c = λ numbers is.
    tally_more c.args.self.now _ c.args.number c.args.n c.requires.some (search rules) (search rules)
    (c.cover.ensures.first numbers is) c.cover.ensures.next c.cover.ensures.most numbers is
