use Rattle.std.proofs.Common.{arith, refl}
use Rattle.dcc_timing.proofs.GapLemmas.{gaps_more}
use Rattle.dcc_timing.proofs.gaps.Gaps.add.Goals as goal

pub returns : goal.returns
returns c =
    gaps_more c.args.self.now _ c.args.end (omega (arith, c.ranges, c.saturating_add.ensures, c.min-self.ensures)) refl
    (λ none. c.longer-self.ensures.first none)
    (λ some. grind (arith, c.longer-self.ensures.next some, c.saturating_sub.ensures))
