use Rattle.std.proofs.Common.{arith, ap, length, ◌∙◌}
use Rattle.dcc_lost.proofs.FoundLemmas.{spiked_is}
use Rattle.dcc_lost.proofs.joined.with_spikes.Goals as goal

pub returns : goal.returns
returns c = λ limit durations hears is.
    spiked_is limit durations c.args.frame c.bytes.result.now c.args.closed.now c.last.result.now c.last-2.result.now
    c.first_or_zero-unused.result c.causes_of-lost.result.1 c.sum_of.result c.since_refusal.result c.exact.result
    c.causes_of-lost.result.0 is (omega (arith, ap length c.bytes.ensures.value, c.bytes.ensures.valid.most))
    c.bytes.ensures.value c.last.ensures c.first_or_zero-unused.ensures (c.since_refusal.ensures ∙ hears.refused)
    c.exact.ensures (c.causes_of-lost.ensures.lost _ is.durations) (c.causes_of-lost.ensures.ones _ is.durations)
    c.causes_of-lost.ensures.few c.last-2.ensures c.sum_of.ensures
