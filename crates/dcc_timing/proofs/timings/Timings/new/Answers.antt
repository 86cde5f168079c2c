use Rattle.std.proofs.Common.{[]}
use Prim.{∣◌∣₁}
use Rattle.dcc_wire.specs.Kept.{kept_rest}
use Rattle.dcc_timing.specs.Measured.{AreMeasured}
use Rattle.dcc_timing.specs.Recent.{recent_numbers}
use Rattle.dcc_timing.proofs.MeasureLemmas.{measures_none}
use Rattle.dcc_timing.proofs.timings.Timings.new.Goals.{After-new-5}
use Rattle.dcc_timing.proofs.timings.Timings.new.Goals as goal

-- the statistics of the empty list
none : (c : After-new-5)
    → AreMeasured 0 0 c.new.result c.new-2.result c.new-3.result (kept_rest c.new-4.result)
    (recent_numbers c.new-5.result) []
none c =
    measures_none c.new.result c.new-2.result c.new-3.result (kept_rest c.new-4.result) (recent_numbers c.new-5.result)
    c.new.ensures.classes c.new-2.ensures.outcomes c.new-3.ensures.bits c.new-3.ensures.gaps
    c.new-4.ensures.stands c.new-5.ensures

pub returns : goal.returns
returns c = none (goal.at.returns c).After-new-5

pub invariant_of-result-clause-history : goal.invariant_of-result-clause-history
invariant_of-result-clause-history c = ∣ ([], none (goal.at.invariant_of-result-clause-history c).After-new-5) ∣₁
