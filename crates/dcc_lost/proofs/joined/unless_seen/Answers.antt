use Rattle.std.proofs.Common.{arith, ap, length, Some, ◌∙◌}
use Rattle.std.specs.Option.{option_map}
use Rattle.dcc_lost.specs.JoinedLost.{with_spikes}
use Rattle.dcc_lost.proofs.FoundLemmas.{none_within, seen_within}
use Rattle.dcc_lost.proofs.joined.unless_seen.Goals as goal

pub returns-then-sum_of-gt0 : goal.returns-then-sum_of-gt0
returns-then-sum_of-gt0 c = λ limit durations hears is.
    ap (option_map (with_spikes limit durations))
    (seen_within _ _ c.last.result.now c.bytes.result.now c.args.frame c.sum_of.result is.packets
    (omega (arith, ap length c.bytes.ensures.value, c.bytes.ensures.valid.most)) c.bytes.ensures.value
    c.last.ensures c.sum_of.ensures c.if-sum_of-gt0.true)

pub returns : goal.returns
returns c = λ limit durations hears is.
    ap Some (c.with_spikes.ensures limit durations hears is)
    ∙ ap (option_map (with_spikes limit durations))
    (none_within _ _ c.last.result.now c.bytes.result.now c.args.frame c.sum_of.result is.packets
    (omega (arith, ap length c.bytes.ensures.value, c.bytes.ensures.valid.most)) c.bytes.ensures.value
    c.last.ensures c.sum_of.ensures (omega (arith, c.if-sum_of-gt0.false)))
