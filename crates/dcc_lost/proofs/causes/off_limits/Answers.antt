use Rattle.std.proofs.Common.{arith, take, refl}
use Rattle.dcc_lost.specs.Causes.{is_off_one, is_off_zero, off_limits}
use Rattle.dcc_lost.proofs.CauseLemmas.{few_noted, noted_next, noted_all}
use Rattle.dcc_lost.proofs.causes.off_limits.Goals as goal

pub halves-init : goal.halves-init
unfolding off_limits
halves-init c = record { ones = refl; zeros = refl }

pub noted-ones-requires : goal.noted-ones-requires
noted-ones-requires c =
    few_noted is_off_one c.args.halves.now c.halves.us-index _ c.requires c.halves.invariant.ones

pub noted-zeros-requires : goal.noted-zeros-requires
noted-zeros-requires c =
    few_noted is_off_zero c.args.halves.now c.halves.us-index _ c.requires c.halves.invariant.zeros

pub halves-preserved : goal.halves-preserved
halves-preserved c = record {
  ones = noted_next is_off_one c.args.halves.now c.halves.us-index _ c.halves-test.true
      (c.noted-ones.ensures is_off_one (take c.halves.us-index c.args.halves.now) c.halves.invariant.ones
      c.is_off_one.ensures);
  zeros = noted_next is_off_zero c.args.halves.now c.halves.us-index _ c.halves-test.true
      (c.noted-zeros.ensures is_off_zero (take c.halves.us-index c.args.halves.now) c.halves.invariant.zeros
      c.is_off_zero.ensures);
}

pub returns : goal.returns
returns c = record {
  ones = noted_all is_off_one c.args.halves.now c.halves.us-index _ (grind arith) c.halves.invariant.ones;
  zeros = noted_all is_off_zero c.args.halves.now c.halves.us-index _ (grind arith) c.halves.invariant.zeros;
}
