use Rattle.std.proofs.Common.{◌≡◌, ◌≤◌, ◌-◌, ◌++◌, ℕ, List, length, take}
use Rattle.dcc_lost.specs.Causes.{packets_lost}
use Rattle.dcc_lost.specs.Reads.{Follows}
use Rattle.dcc_c.proofs.lost.dcc_lost_push_many.Given as goal

abbrev pub invariant-halves : goal.invariant-halves
invariant-halves l = record {
  within : l.at ≤ length l.halves;
  reads : (track : List ℕ) → Follows l.initial.finder track → Follows l.finder (track ++ take l.at l.halves);
  none : (track : List ℕ) → Follows l.initial.finder track
      → packets_lost (track ++ take l.at l.halves) ≡ packets_lost track;
  packet : l.packet ≡ l.initial.packet;
}

abbrev pub decreases-halves : goal.decreases-halves
decreases-halves l = length l.halves - l.at
