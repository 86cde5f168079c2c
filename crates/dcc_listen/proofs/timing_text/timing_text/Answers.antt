use Rattle.std.proofs.Common.{◌≡◌, ◌++◌, ◌∙◌, List, ℕ, ap, arith}
use Rattle.dcc_lost.specs.Preambles.{lost_count}
use Rattle.dcc_listen.specs.TimingText.{timing_text}
use Rattle.dcc_listen.proofs.TimingTextLemmas.{joined}
use Rattle.dcc_listen.proofs.timing_text.timing_text.Goals as goal

pub returns : goal.returns
unfolding timing_text
returns c = λ halves track.
    let are = c.timings-timings.ensures halves track in
    let exact : c.lost.result ≡ lost_count halves =
    omega (arith, c.lost.ensures halves track, track.lost.few, c.halves.ensures.length halves are, c.halves.type_inv) in
    let all : c.add_others.new.text.items ≡ c.new-text.result.items ++ timing_text halves =
    joined _ _ _ _ _
    (joined _ _ _ _ _
    (joined _ _ _ _ _
    (joined _ _ _ _ _
    (joined _ _ _ _ _
    (joined _ _ _ _ _
    (joined _ _ _ _ _ (rw (c.from.ensures, c.halves.ensures.length halves are) at c.add_figure.ensures.items)
    (rw (c.time.ensures halves are) at c.add_figure-2.ensures.items))
    (c.add_outcomes.ensures.items _ (c.outcomes.ensures halves are)))
    (rw (c.from-2.ensures, exact) at c.add_figure-3.ensures.items))
    (rw (c.as_number.ensures, c.shortest_preamble.ensures halves track) at c.add_figure-4.ensures.items))
    (rw (c.longest_gap.ensures halves are) at c.add_figure-5.ensures.items))
    (c.add_bits.ensures.items _ _ (c.classes.ensures halves are) (c.bits.ensures halves are)))
    (c.add_others.ensures halves (c.classes-2.ensures halves are)) in
    all ∙ ap (λ (l : List ℕ). l ++ timing_text halves) c.new-text.ensures
