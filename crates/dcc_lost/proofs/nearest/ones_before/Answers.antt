use Rattle.std.proofs.Common.{arith}
use Rattle.dcc_lost.proofs.NearestLemmas.{ones_go_on, ones_end, ones_all}
use Rattle.dcc_lost.proofs.nearest.ones_before.Goals as goal

pub returns-then-not-is_nearest_one-clause-ones : goal.returns-then-not-is_nearest_one-clause-ones
returns-then-not-is_nearest_one-clause-ones c =
    ones_end c.args.halves.now c.loop-i.i _ c.loop-i-test.true (grind arith) c.loop-i.invariant

pub loop-i-preserved : goal.loop-i-preserved
loop-i-preserved c = ones_go_on c.args.halves.now c.loop-i.i _ c.loop-i-test.true (grind arith) c.loop-i.invariant

pub returns-clause-ones : goal.returns-clause-ones
returns-clause-ones c =
    ones_all c.args.halves.now c.loop-i.i _ c.loop-i-test.false c.loop-i.auto.i-end c.loop-i.invariant
