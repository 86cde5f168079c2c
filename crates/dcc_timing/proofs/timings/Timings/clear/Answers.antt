use Rattle.std.proofs.Common.{[], arith}
use Prim.{∣◌∣₁}
use Rattle.dcc_wire.specs.Kept.{kept_rest}
use Rattle.dcc_timing.specs.Measured.{AreMeasured}
use Rattle.dcc_timing.specs.Recent.{recent_numbers}
use Rattle.dcc_timing.proofs.MeasureLemmas.{measures_none}
use Rattle.dcc_timing.proofs.timings.Timings.clear.Goals.{After-clear}
use Rattle.dcc_timing.proofs.timings.Timings.clear.Goals as goal

-- the statistics of the empty list
none : (c : After-clear)
    → AreMeasured 0 0 c.new-self.result c.new-self-2.result c.new-self-3.result (kept_rest c.new-self-4.result)
    (recent_numbers c.clear.new.self) []
none c =
    measures_none c.new-self.result c.new-self-2.result c.new-self-3.result (kept_rest c.new-self-4.result)
    (recent_numbers c.clear.new.self)
    c.new-self.ensures.classes c.new-self-2.ensures.outcomes c.new-self-3.ensures.bits c.new-self-3.ensures.gaps
    c.new-self-4.ensures.stands c.clear.ensures

pub returns : goal.returns
returns c = none (goal.at.returns c).After-clear

pub invariant_of-self : goal.invariant_of-self
invariant_of-self c = record {
  time_fits = omega arith;
  classes_fit = omega (arith, c.new-self.ensures.count);
  outcomes_fit = omega (arith, c.new-self-2.ensures.count);
  bits_fit = omega (arith, c.new-self-3.ensures.count);
  history = ∣ ([], none (goal.at.invariant_of-self c).After-clear) ∣₁;
}
