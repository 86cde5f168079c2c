use Rattle.std.proofs.Common.{◌≡◌, ◌≤◌, ◌+◌, ◌-◌, ◌*◌, length, sum, take}
use Rattle.std.specs.List.{filter}
use Rattle.dcc_timing.specs.Inner.Ranges.{is_in}
use Rattle.dcc_timing.proofs.covered.sums_in.Given as goal

abbrev pub invariant-loop-i : goal.invariant-loop-i
invariant-loop-i l = record {
  ones : l.part.ones ≡ length (filter (is_in l.ones) (take l.i l.halves));
  zeros : l.part.zeros ≡ length (filter (is_in l.zeros) (take l.i l.halves));
  ones_sum : l.part.ones_sum ≡ sum (filter (is_in l.ones) (take l.i l.halves));
  total : l.part.sum ≡ sum (take l.i l.halves);
  few_ones : l.part.ones ≤ l.i;
  few_zeros : l.part.zeros ≤ l.i;
  small : l.part.ones_sum ≤ 65535 * l.part.ones;
  inside : l.part.ones_sum ≤ l.part.sum;
  rest : l.part.sum ≤ l.part.ones_sum + 65535 * (l.i - l.part.ones);
}
