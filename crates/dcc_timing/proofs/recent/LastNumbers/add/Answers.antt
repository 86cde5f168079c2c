use Rattle.std.proofs.Common.{arith, refl}
use Rattle.dcc_timing.specs.Recent.{recent_numbers}
use Rattle.dcc_timing.proofs.RecentLemmas.{added}
use Rattle.dcc_timing.proofs.recent.LastNumbers.add.Goals as goal

pub returns : goal.returns
unfolding recent_numbers
returns c =
    added c.args.self.now.numbers _ c.args.self.now.len c.from.result c.args.number c.from.ensures
    (omega (arith, c.args.self.now.fits, c.requires)) refl
