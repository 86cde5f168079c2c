use Rattle.std.proofs.Common.{arith, ap, length}
use Rattle.dcc_timing.specs.Recent.{recent_numbers}
use Rattle.dcc_lost.proofs.FinderLemmas.{few_before}
use Rattle.dcc_lost.proofs.FoundLemmas.{causes_from, ones_from}
use Rattle.dcc_lost.proofs.rings.causes_of.Goals as goal

pub returns-clause-lost : goal.returns-clause-lost
returns-clause-lost c = λ numbers is.
    causes_from numbers (recent_numbers c.args.durations.now) c.args.frame c.bytes.result.now
    c.last-last.result.now c.last.result.now
    c.saturating_sub.result c.ones_at_end-before.result c.args.unused c.args.since c.short_preamble.result
    c.off_limits-ones.result.0 c.off_limits-ones.result.1 is
    (omega (arith, ap length c.bytes.ensures.value, c.bytes.ensures.valid.most)) c.bytes.ensures.value
    c.last-last.ensures c.saturating_sub.ensures c.ones_at_end-before.ensures.ones
    (few_before (recent_numbers c.args.durations.now) c.last-last.result.now _ c.saturating_sub.result _
    c.last-last.ensures
    c.saturating_sub.ensures c.ones_at_end-before.ensures.few) c.last.ensures c.short_preamble.ensures
    c.off_limits-ones.ensures.ones c.off_limits-ones.ensures.zeros

pub returns-clause-ones : goal.returns-clause-ones
returns-clause-ones c = λ numbers is.
    ones_from numbers (recent_numbers c.args.durations.now) c.args.frame c.bytes.result.now c.last-last.result.now
    c.saturating_sub.result c.ones_at_end-before.result is
    (omega (arith, ap length c.bytes.ensures.value, c.bytes.ensures.valid.most)) c.bytes.ensures.value
    c.last-last.ensures c.saturating_sub.ensures c.ones_at_end-before.ensures.ones
