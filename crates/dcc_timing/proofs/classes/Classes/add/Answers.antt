use Rattle.std.proofs.Common.{arith}
use Rattle.std.proofs.lemmas.Bool.Decides.{nat_tests}
use Rattle.dcc_timing.specs.Classes.{is_below, is_half_of_one, is_between, is_half_of_zero, is_above}
use Rattle.dcc_timing.proofs.ClassLemmas.{tally_in, tally_out}
use Rattle.dcc_timing.proofs.classes.Classes.add.Goals as goal

pub returns-in-0-to-51-clause-classes : goal.returns-in-0-to-51-clause-classes
returns-in-0-to-51-clause-classes c = λ halves are. record {
  below = tally_in is_below c.args.self.now.below c.add.new.self c.args.us _ c.args.n halves (grind (arith, nat_tests))
      c.from.ensures c.add.ensures.tally are.below;
  ones = tally_out is_half_of_one c.args.self.now.ones c.args.us c.args.n halves (grind (arith, nat_tests)) are.ones;
  between = tally_out is_between c.args.self.now.between c.args.us c.args.n halves (grind (arith, nat_tests))
      are.between;
  zeros = tally_out is_half_of_zero c.args.self.now.zeros c.args.us c.args.n halves (grind (arith, nat_tests))
      are.zeros;
  above = tally_out is_above c.args.self.now.above c.args.us c.args.n halves (grind (arith, nat_tests)) are.above;
}

pub returns-in-52-to-64-clause-classes : goal.returns-in-52-to-64-clause-classes
returns-in-52-to-64-clause-classes c = λ halves are. record {
  below = tally_out is_below c.args.self.now.below c.args.us c.args.n halves (grind (arith, nat_tests)) are.below;
  ones = tally_in is_half_of_one c.args.self.now.ones c.add-in-52-to-64.new.self c.args.us _ c.args.n halves
      (grind (arith, nat_tests))
      c.from-in-52-to-64.ensures c.add-in-52-to-64.ensures.tally are.ones;
  between = tally_out is_between c.args.self.now.between c.args.us c.args.n halves (grind (arith, nat_tests))
      are.between;
  zeros = tally_out is_half_of_zero c.args.self.now.zeros c.args.us c.args.n halves (grind (arith, nat_tests))
      are.zeros;
  above = tally_out is_above c.args.self.now.above c.args.us c.args.n halves (grind (arith, nat_tests)) are.above;
}

pub returns-in-65-to-89-clause-classes : goal.returns-in-65-to-89-clause-classes
returns-in-65-to-89-clause-classes c = λ halves are. record {
  below = tally_out is_below c.args.self.now.below c.args.us c.args.n halves (grind (arith, nat_tests)) are.below;
  ones = tally_out is_half_of_one c.args.self.now.ones c.args.us c.args.n halves (grind (arith, nat_tests)) are.ones;
  between = tally_in is_between c.args.self.now.between c.add-in-65-to-89.new.self c.args.us _ c.args.n halves
      (grind (arith, nat_tests))
      c.from-in-65-to-89.ensures c.add-in-65-to-89.ensures.tally are.between;
  zeros = tally_out is_half_of_zero c.args.self.now.zeros c.args.us c.args.n halves (grind (arith, nat_tests))
      are.zeros;
  above = tally_out is_above c.args.self.now.above c.args.us c.args.n halves (grind (arith, nat_tests)) are.above;
}

pub returns-in-90-to-10000-clause-classes : goal.returns-in-90-to-10000-clause-classes
returns-in-90-to-10000-clause-classes c = λ halves are. record {
  below = tally_out is_below c.args.self.now.below c.args.us c.args.n halves (grind (arith, nat_tests)) are.below;
  ones = tally_out is_half_of_one c.args.self.now.ones c.args.us c.args.n halves (grind (arith, nat_tests)) are.ones;
  between = tally_out is_between c.args.self.now.between c.args.us c.args.n halves (grind (arith, nat_tests))
      are.between;
  zeros = tally_in is_half_of_zero c.args.self.now.zeros c.add-in-90-to-10000.new.self c.args.us _ c.args.n halves
      (grind (arith, nat_tests))
      c.from-in-90-to-10000.ensures c.add-in-90-to-10000.ensures.tally are.zeros;
  above = tally_out is_above c.args.self.now.above c.args.us c.args.n halves (grind (arith, nat_tests)) are.above;
}

pub returns-in_default-clause-classes : goal.returns-in_default-clause-classes
returns-in_default-clause-classes c = λ halves are. record {
  below = tally_out is_below c.args.self.now.below c.args.us c.args.n halves (grind (arith, nat_tests)) are.below;
  ones = tally_out is_half_of_one c.args.self.now.ones c.args.us c.args.n halves (grind (arith, nat_tests)) are.ones;
  between = tally_out is_between c.args.self.now.between c.args.us c.args.n halves (grind (arith, nat_tests))
      are.between;
  zeros = tally_out is_half_of_zero c.args.self.now.zeros c.args.us c.args.n halves (grind (arith, nat_tests))
      are.zeros;
  above = tally_in is_above c.args.self.now.above c.add-in_default.new.self c.args.us _ c.args.n halves
      (grind (arith, nat_tests))
      c.from-in_default.ensures c.add-in_default.ensures.tally are.above;
}
