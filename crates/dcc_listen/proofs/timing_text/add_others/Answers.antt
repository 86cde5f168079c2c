use Rattle.dcc_listen.specs.TimingText.{other_lines}
use Rattle.dcc_listen.proofs.TimingTextLemmas.{joined}
use Rattle.dcc_listen.proofs.timing_text.add_others.Goals as goal

pub returns : goal.returns
unfolding other_lines
returns c = λ halves are.
    joined _ _ _ _ _ (joined _ _ _ _ _ (c.add_tally.ensures.items _ are.below)
    (c.add_tally-2.ensures.items _ are.between))
    (c.add_tally-3.ensures.items _ are.above)
