use Rattle.std.proofs.Common.{◌≡◌, ◌+◌, arith, length, map}
use Rattle.std.specs.List.{filter}
use Rattle.dcc_timing.specs.Inner.Ranges.{is_one_in, is_zero_in}
use Rattle.dcc_timing.specs.PacketBits.{bit_duration, difference, is_one_pair, is_zero_pair, pairs}
use Rattle.dcc_timing.proofs.CoveredBits as covered
use Rattle.dcc_timing.proofs.bits.Bits.add_covered.Goals as goal

pub returns-clause-bits : goal.returns-clause-bits
returns-clause-bits c = λ holds bits are.
    let old = c.args.self.now in
    let more = pairs c.args.halves.now in
    let one = c.in-Some.ones in
    let zero = c.in-Some-span.zeros in
    let part = c.sums_of_bits-part.ensures in
    let ones = c.in-Some.ensures in
    let zeros = c.in-Some-span.ensures in
    let all : length (filter (is_one_in one) more) + length (filter (is_zero_in zero) more) ≡ length more = omega
    (arith, part.ones, part.zeros, c.if-part-halves.false, covered.length_pairs c.args.halves.now) in
    record {
      differences = covered.differences_grow old bits more one zero ones.1 ones.2 zeros.1 zeros.2 all _
          (c.add_covered.ensures.tally (map difference (filter is_one_pair bits))
          (map difference (filter (is_one_in one) more)) are.differences
          (covered.ones_in old bits more one zero ones.1 ones.2 zeros.1 zeros.2 all)
          (covered.count_of (is_one_in one) difference more _ part.ones) part.differences);
      sums = covered.sums_grow old bits more one zero ones.1 ones.2 zeros.1 zeros.2 all _
          (c.add_covered-2.ensures.tally (map bit_duration (filter is_zero_pair bits))
          (map bit_duration (filter (is_zero_in zero) more)) are.sums
          (covered.zeros_in old bits more one zero ones.1 ones.2 zeros.1 zeros.2 all)
          (covered.count_of (is_zero_in zero) bit_duration more _ part.zeros) part.durations);
    }
