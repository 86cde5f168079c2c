use Rattle.std.proofs.Common.{◌≡◌, length, take}
use Rattle.dcc_lost.specs.Inner.{rising}
use Rattle.dcc_lost.proofs.figures.push_rising.Given as goal

abbrev pub invariant-loop-i : goal.invariant-loop-i
invariant-loop-i l = record {
  numbers : take l.i l.rising ≡ rising l.first l.i;
  whole : length l.rising ≡ 55;
}
