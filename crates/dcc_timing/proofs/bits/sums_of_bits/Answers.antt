use Rattle.std.proofs.Common.{◌≡◌, ◌≤◌, ◌/◌, ℕ, List, arith, length, take}
use Rattle.std.proofs.lemmas.List.{take_all}
use Rattle.dcc_timing.specs.Inner.Ranges.{is_one_in, is_zero_in}
use Rattle.dcc_timing.specs.PacketBits.{bit_duration, difference, pairs}
use Rattle.dcc_timing.proofs.CoveredBits.{count_more, few_more, length_pairs, small_more, total_more}
use Rattle.dcc_timing.proofs.bits.sums_of_bits.Goals as goal

all_bits : (halves : List ℕ) (i : ℕ) → length halves / 2 ≤ i → take i (pairs halves) ≡ pairs halves
all_bits halves i all = take_all i (pairs halves) (omega (arith, all, length_pairs halves))

pub loop-i-preserved : goal.loop-i-preserved
loop-i-preserved c =
    let halves = c.args.halves.now in
    let i = c.loop-i.i in
    let before = c.loop-i.invariant in
    let inside = c.loop-i-test.true in
    let one = is_one_in c.args.ones in
    let zero = is_zero_in c.args.zeros in
    record {
      ones = count_more one halves i inside _ _ _ c.is_one_in-one.ensures c.add_if.ensures before.ones;
      zeros = count_more zero halves i inside _ _ _ c.is_zero_in-zero.ensures c.add_if-in-loop-i-2.ensures before.zeros;
      differences = total_more one halves i inside difference _ _ _ _ c.is_one_in-one.ensures
          c.difference.ensures.difference c.add_if-in-loop-i.ensures before.differences;
      durations = total_more zero halves i inside bit_duration _ _ _ _ c.is_zero_in-zero.ensures
          c.duration.ensures.duration c.add_if-in-loop-i-3.ensures before.durations;
      few_ones = few_more _ _ _ i c.add_if.ensures before.few_ones;
      few_zeros = few_more _ _ _ i c.add_if-in-loop-i-2.ensures before.few_zeros;
      small_differences = small_more _ _ _ _ _ c.difference.result c.add_if.ensures c.add_if-in-loop-i.ensures
          (omega (arith, c.difference.ensures.small)) before.small_differences;
      small_durations = small_more _ _ _ _ _ _ c.add_if-in-loop-i-2.ensures c.add_if-in-loop-i-3.ensures
          c.duration.ensures.small before.small_durations;
    }

pub returns-clause-ones : goal.returns-clause-ones
returns-clause-ones c =
    let all = all_bits c.args.halves.now c.loop-i.i (omega (arith, c.loop-i-test.false)) in
    rw all at c.loop-i.invariant.ones

pub returns-clause-zeros : goal.returns-clause-zeros
returns-clause-zeros c =
    let all = all_bits c.args.halves.now c.loop-i.i (omega (arith, c.loop-i-test.false)) in
    rw all at c.loop-i.invariant.zeros

pub returns-clause-differences : goal.returns-clause-differences
returns-clause-differences c =
    let all = all_bits c.args.halves.now c.loop-i.i (omega (arith, c.loop-i-test.false)) in
    rw all at c.loop-i.invariant.differences

pub returns-clause-durations : goal.returns-clause-durations
returns-clause-durations c =
    let all = all_bits c.args.halves.now c.loop-i.i (omega (arith, c.loop-i-test.false)) in
    rw all at c.loop-i.invariant.durations
