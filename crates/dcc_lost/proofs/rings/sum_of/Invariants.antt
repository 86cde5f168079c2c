use Rattle.std.proofs.Common.{◌≡◌, ◌≤◌, ◌*◌, sum, take}
use Rattle.dcc_lost.proofs.rings.sum_of.Given as goal

abbrev pub invariant-numbers : goal.invariant-numbers
invariant-numbers l = record {
  total : l.total ≡ sum (take l.number-index l.numbers);
  few : l.total ≤ 65535 * l.number-index;
}
