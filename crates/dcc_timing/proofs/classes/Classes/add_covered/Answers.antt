use Rattle.std.proofs.Common.{◌≡◌, ◌+◌, arith, length}
use Rattle.std.specs.List.{filter}
use Rattle.dcc_timing.specs.Classes.{is_half_of_one, is_half_of_zero}
use Rattle.dcc_timing.specs.Inner.Ranges.{is_in}
use Rattle.dcc_timing.proofs.CoveredLemmas as covered
use Rattle.dcc_timing.proofs.classes.Classes.add_covered.Goals as goal

pub returns-clause-classes : goal.returns-clause-classes
returns-clause-classes c = λ holds durations are.
    let old = c.args.self.now in
    let halves = c.args.halves.now in
    let one = c.in-Some.ones in
    let zero = c.in-Some-span.zeros in
    let part = c.sums_in-part.ensures in
    let ones = c.in-Some.ensures in
    let zeros = c.in-Some-span.ensures in
    let all : length (filter (is_in one) halves) + length (filter (is_in zero) halves) ≡ length halves = omega
    (arith, part.ones, part.zeros, c.if-part-halves.false) in
    let sums = covered.covered_sum old durations halves one zero are ones.0 zeros.0 ones.1 ones.2 zeros.1 zeros.2 all in
    record {
      below = covered.below_stays old durations halves one zero are ones.0 zeros.0 ones.1 ones.2 zeros.1 zeros.2 all;
      ones = covered.ones_grow old durations halves one zero are ones.0 zeros.0 ones.1 ones.2 zeros.1 zeros.2 all _
          (c.add_covered.ensures.tally (filter is_half_of_one durations) (filter (is_in one) halves) are.ones
          (covered.ones_between old durations halves one zero are ones.0 zeros.0 ones.1 ones.2 zeros.1 zeros.2 all)
          part.ones part.ones_sum);
      between = covered.between_stays old durations halves one zero are ones.0 zeros.0 ones.1 ones.2 zeros.1 zeros.2
          all;
      zeros = covered.zeros_grow old durations halves one zero are ones.0 zeros.0 ones.1 ones.2 zeros.1 zeros.2 all _
          (c.add_covered-2.ensures.tally (filter is_half_of_zero durations) (filter (is_in zero) halves) are.zeros
          (covered.zeros_between old durations halves one zero are ones.0 zeros.0 ones.1 ones.2 zeros.1 zeros.2 all)
          part.zeros (omega (arith, sums, part.ones_sum, part.sum)));
      above = covered.above_stays old durations halves one zero are ones.0 zeros.0 ones.1 ones.2 zeros.1 zeros.2 all;
    }
