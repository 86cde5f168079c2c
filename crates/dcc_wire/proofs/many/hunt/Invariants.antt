use Rattle.std.proofs.Common.{length, ◌-◌, ◌≤◌, take}
use Rattle.dcc_wire.specs.Framing.{Hunting}
use Rattle.dcc_wire.specs.Inner.Lists.{PassesList}
use Rattle.dcc_wire.proofs.many.hunt.Given as goal

abbrev pub invariant-halves : goal.invariant-halves
invariant-halves l = record {
  passes : PassesList (Hunting l.fn.ones) (take l.hunted.at l.halves) (Hunting l.hunted.ones);
  inside : l.hunted.at ≤ length l.halves;
}

abbrev pub decreases-halves : goal.decreases-halves
decreases-halves l = length l.halves - l.hunted.at
