use Rattle.dcc_listen.specs.TimingText.{outcome_lines}
use Rattle.dcc_listen.proofs.TimingTextLemmas.{joined}
use Rattle.dcc_listen.proofs.timing_text.add_outcomes.Goals as goal

pub returns-clause-items : goal.returns-clause-items
unfolding outcome_lines
returns-clause-items c = λ seen are.
    joined _ _ _ _ _ (joined _ _ _ _ _
    (joined _ _ _ _ _ (joined _ _ _ _ _
    (joined _ _ _ _ _ (rw (c.from.ensures, are.packets) at c.add_figure.ensures.items)
    (rw (c.from-2.ensures, are.bad_halves) at c.add_figure-2.ensures.items))
    (rw (c.from-3.ensures, are.split_bits) at c.add_figure-3.ensures.items))
    (rw (c.from-4.ensures, are.too_short) at c.add_figure-4.ensures.items))
    (rw (c.from-5.ensures, are.too_long) at c.add_figure-5.ensures.items))
    (rw (c.from-6.ensures, are.error_bytes) at c.add_figure-6.ensures.items)
