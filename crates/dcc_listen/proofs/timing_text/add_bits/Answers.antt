use Rattle.dcc_listen.specs.TimingText.{bit_lines}
use Rattle.dcc_listen.proofs.TimingTextLemmas.{joined}
use Rattle.dcc_listen.proofs.timing_text.add_bits.Goals as goal

pub returns-clause-items : goal.returns-clause-items
unfolding bit_lines
returns-clause-items c = λ halves pairs are_classes are_bits.
    joined _ _ _ _ _ (joined _ _ _ _ _
    (joined _ _ _ _ _ (joined _ _ _ _ _
    (joined _ _ _ _ _ (joined _ _ _ _ _ (joined _ _ _ _ _ (c.add_tally.ensures.items _ are_classes.ones)
    c.append.ensures.items)
    (c.add_tally-2.ensures.items _ are_bits.differences))
    c.append-2.ensures.items)
    (c.add_tally-3.ensures.items _ are_classes.zeros))
    c.append-3.ensures.items)
    (c.add_tally-4.ensures.items _ are_bits.sums))
    c.append-4.ensures.items
