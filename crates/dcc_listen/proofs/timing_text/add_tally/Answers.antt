use Rattle.dcc_listen.specs.TimingText.{tally_lines}
use Rattle.dcc_listen.proofs.TimingTextLemmas.{joined}
use Rattle.dcc_listen.proofs.timing_text.add_tally.Goals as goal

pub returns-clause-items : goal.returns-clause-items
unfolding tally_lines
returns-clause-items c = λ numbers is.
    joined _ _ _ _ _
    (joined _ _ _ _ _
    (joined _ _ _ _ _ (rw (c.count.ensures numbers is) at c.add_figure.ensures.items)
    (rw (c.least.ensures numbers is) at c.add_figure-2.ensures.items))
    (rw (c.most.ensures numbers is) at c.add_figure-3.ensures.items))
    (rw (c.mean.ensures.mean numbers is) at c.add_mean.ensures.items)
