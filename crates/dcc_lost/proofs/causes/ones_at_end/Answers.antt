use Rattle.std.proofs.Common.{arith}
use Rattle.dcc_lost.proofs.CauseLemmas.{end_goes_on, end_stops, end_all, end_none}
use Rattle.dcc_lost.proofs.causes.ones_at_end.Goals as goal

pub ones-init : goal.ones-init
ones-init c = record { few = omega arith; counted = end_none c.args.halves.now }

pub returns-then-not-is_nearest_one-clause-ones : goal.returns-then-not-is_nearest_one-clause-ones
returns-then-not-is_nearest_one-clause-ones c =
    end_stops c.args.halves.now c.ones.ones _ c.ones-test.true (grind arith) c.ones.invariant.counted

pub ones-preserved : goal.ones-preserved
ones-preserved c = record {
  few = omega arith;
  counted = end_goes_on c.args.halves.now c.ones.ones _ c.ones-test.true (grind arith) c.ones.invariant.counted;
}

pub returns-clause-ones : goal.returns-clause-ones
returns-clause-ones c = end_all c.args.halves.now c.ones.ones _ c.ones-test.false c.ones.invariant.counted
