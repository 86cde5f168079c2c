use Rattle.std.proofs.Common.{arith, sym, ap, ◌∙◌, take}
use Rattle.dcc_timing.specs.Numbers.{keep_last}
use Rattle.dcc_timing.specs.Recent.{recent_numbers}
use Rattle.dcc_timing.proofs.RecentLemmas.{moved_to_front}
use Rattle.dcc_timing.proofs.recent.LastNumbers.move_to_front.Goals as goal

pub returns-clause-numbers : goal.returns-clause-numbers
unfolding recent_numbers
returns-clause-numbers c =
    moved_to_front c.args.self.now.numbers _ (omega (arith, c.args.self.now.fits)) c.copy_within.ensures.after
    ∙ ap (λ n. keep_last 130 (take n c.args.self.now.numbers)) (sym c.requires)
