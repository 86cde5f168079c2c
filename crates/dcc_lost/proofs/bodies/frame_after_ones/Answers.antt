use Rattle.std.proofs.Common.{arith}
use Rattle.dcc_lost.proofs.FrameLemmas.{few_ones, framed, no_start_after}
use Rattle.dcc_lost.proofs.bodies.frame_after_ones.Goals as goal

pub returns-then-not-is_zero_at : goal.returns-then-not-is_zero_at
returns-then-not-is_zero_at c = no_start_after c.args.n c.args.halves.now
    (λ some zero. let yes = c.is_zero_at.ensures.1 (some, zero) in absurd (grind arith))

pub returns-then-ones_before-lt8 : goal.returns-then-ones_before-lt8
returns-then-ones_before-lt8 c = few_ones c.args.n c.args.halves.now (omega (arith, c.ones_before.ensures.ones))

pub returns : goal.returns
returns c = framed c.args.n c.args.halves.now _ (omega (arith, c.ones_before.ensures.ones)) c.frame_of_body.ensures
