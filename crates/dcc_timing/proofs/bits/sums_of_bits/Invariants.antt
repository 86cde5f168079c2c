use Rattle.std.proofs.Common.{◌≡◌, ◌≤◌, ◌*◌, length, map, sum, take}
use Rattle.std.specs.List.{filter}
use Rattle.dcc_timing.specs.Inner.Ranges.{is_one_in, is_zero_in}
use Rattle.dcc_timing.specs.PacketBits.{bit_duration, difference, pairs}
use Rattle.dcc_timing.proofs.bits.sums_of_bits.Given as goal

abbrev pub invariant-loop-i : goal.invariant-loop-i
invariant-loop-i l = record {
  ones : l.part.ones ≡ length (filter (is_one_in l.ones) (take l.i (pairs l.halves)));
  zeros : l.part.zeros ≡ length (filter (is_zero_in l.zeros) (take l.i (pairs l.halves)));
  differences : l.part.differences ≡ sum (map difference (filter (is_one_in l.ones) (take l.i (pairs l.halves))));
  durations : l.part.durations ≡ sum (map bit_duration (filter (is_zero_in l.zeros) (take l.i (pairs l.halves))));
  few_ones : l.part.ones ≤ l.i;
  few_zeros : l.part.zeros ≤ l.i;
  small_differences : l.part.differences ≤ 131070 * l.part.ones;
  small_durations : l.part.durations ≤ 131070 * l.part.zeros;
}
