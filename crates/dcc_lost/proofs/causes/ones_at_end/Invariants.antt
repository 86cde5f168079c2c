use Rattle.std.proofs.Common.{◌≡◌, ◌≤◌, ◌+◌, ◌-◌, map, take, length}
use Rattle.dcc_wire.specs.Framing.{ones_at_end}
use Rattle.dcc_lost.specs.Nearest.{nearest_class}
use Rattle.dcc_lost.proofs.causes.ones_at_end.Given as goal

abbrev pub invariant-ones : goal.invariant-ones
invariant-ones l = record {
  few : l.ones ≤ length l.halves;
  counted : ones_at_end (map nearest_class l.halves)
      ≡ l.ones + ones_at_end (map nearest_class (take (length l.halves - l.ones) l.halves));
}

abbrev pub decreases-ones : goal.decreases-ones
decreases-ones l = length l.halves - l.ones
