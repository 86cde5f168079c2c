use Rattle.std.proofs.Common.{arith, ap, length}
use Rattle.dcc_timing.specs.Recent.{recent_numbers}
use Rattle.dcc_lost.specs.Finding.{heard_state}
use Rattle.dcc_lost.proofs.FinderLemmas.{causes_found, few_before}
use Rattle.dcc_lost.proofs.finder.LostFinder.with_causes.Goals as goal

pub returns : goal.returns
returns c = λ durations read.
    causes_found durations c.args.frame c.bytes.result.now (heard_state c.args.self.now.heard)
    (recent_numbers c.args.self.now.recent) (recent_numbers c.args.self.now.unused)
    c.last-last.result.now c.last.result.now c.last-2.result.now c.saturating_sub.result
    c.ones_at_end-before.result c.first_or_zero-unused.result c.since_refusal.result c.short_preamble.result
    c.off_limits-ones.result.0 c.off_limits-ones.result.1 read
    (omega (arith, ap length c.bytes.ensures.value, c.bytes.ensures.valid.most)) c.bytes.ensures.value
    c.last-last.ensures c.saturating_sub.ensures c.ones_at_end-before.ensures.ones
    (few_before (recent_numbers c.args.self.now.recent)
    c.last-last.result.now _ c.saturating_sub.result _ c.last-last.ensures
    c.saturating_sub.ensures c.ones_at_end-before.ensures.few) c.last.ensures c.last-2.ensures
    c.first_or_zero-unused.ensures c.since_refusal.ensures c.short_preamble.ensures c.off_limits-ones.ensures.ones
    c.off_limits-ones.ensures.zeros
