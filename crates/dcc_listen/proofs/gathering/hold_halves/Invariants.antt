use Rattle.std.proofs.Common.{◌≤◌, ◌-◌, ◌++◌, ℕ, List, length, take}
use Rattle.dcc_listen.specs.Taking.{HoldsPackets}
use Rattle.dcc_listen.proofs.gathering.hold_halves.Given as goal

abbrev pub invariant-halves : goal.invariant-halves
invariant-halves l = record {
  inside : l.taken ≤ length l.halves;
  holds : (durations : List ℕ) → HoldsPackets l.initial.framer l.initial.packets.items durations
      → HoldsPackets l.framer l.packets.items (durations ++ take l.taken l.halves);
}

abbrev pub decreases-halves : goal.decreases-halves
decreases-halves l = length l.halves - l.taken
