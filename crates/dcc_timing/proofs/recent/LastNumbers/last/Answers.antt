use Rattle.std.proofs.Common.{arith, refl}
use Rattle.dcc_timing.specs.Recent.{recent_numbers}
use Rattle.dcc_timing.proofs.RecentLemmas.{last_places}
use Rattle.dcc_timing.proofs.recent.LastNumbers.last.Goals as goal

pub returns : goal.returns
unfolding recent_numbers
returns c =
    last_places c.args.self.now.numbers _ c.args.self.now.len c.args.n c.from-len.result c.saturating_sub.result
    (omega (arith, c.args.self.now.fits)) c.requires c.from-len.ensures c.saturating_sub.ensures refl
