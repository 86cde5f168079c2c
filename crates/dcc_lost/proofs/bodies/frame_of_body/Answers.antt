use Rattle.std.proofs.Common.{arith}
use Rattle.dcc_lost.proofs.FrameLemmas.{no_start, answered}
use Rattle.dcc_lost.proofs.bodies.frame_of_body.Goals as goal

pub returns-then-not-is_zero_at : goal.returns-then-not-is_zero_at
returns-then-not-is_zero_at c = no_start c.args.n c.args.body.now
    (λ some zero. let yes = c.is_zero_at.ensures.1 (some, zero) in absurd (grind arith))

pub returns : goal.returns
returns c = answered c.args.n c.args.body.now _ _ c.outcome_of.ensures c.of_length.ensures
