use Rattle.std.proofs.Common.{arith, refl}
use Rattle.dcc_timing.specs.Recent.{recent_numbers}
use Rattle.dcc_timing.proofs.RecentLemmas.{added_all}
use Rattle.dcc_timing.proofs.recent.LastNumbers.add_all.Goals as goal

pub returns : goal.returns
unfolding recent_numbers
returns c =
    added_all c.args.self.now.numbers _ c.args.numbers.now c.copy_from_slice.new.self c.args.self.now.len
    c.from-len.result _ _ c.from-len.ensures refl (omega (arith, c.args.self.now.fits, c.requires))
    c.copy_from_slice.ensures.after refl
