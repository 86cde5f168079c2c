use Rattle.std.proofs.Common.{arith}
use Rattle.dcc_lost.proofs.PreambleLemmas.{ones_more, ones_none}
use Rattle.dcc_lost.proofs.figures.ones_next.Goals as goal

pub returns-then-is_nearest_one : goal.returns-then-is_nearest_one
returns-then-is_nearest_one c = λ durations ones.
    ones_more durations c.args.us c.args.ones _ (c.is_nearest_one.ensures.0 (grind arith)) ones
    (omega (arith, c.saturating_add.ensures))

pub returns-else-is_nearest_one : goal.returns-else-is_nearest_one
returns-else-is_nearest_one c = λ durations ones.
    ones_none durations c.args.us (λ one. let yes = c.is_nearest_one.ensures.1 one in absurd (grind arith))
