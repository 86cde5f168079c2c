use Rattle.std.proofs.Common.{◌≡◌, ◌≤◌, take}
use Rattle.dcc_lost.specs.Preambles.{lost_count}
use Rattle.dcc_lost.specs.Reads.{Follows}
use Rattle.dcc_examples.proofs.lost_packets.count_lost.Given as goal

abbrev pub invariant-loop-us : goal.invariant-loop-us
invariant-loop-us l =
    Follows l.finder (take l.us-index l.halves) × (l.count ≡ lost_count (take l.us-index l.halves))
    × (l.count ≤ l.us-index)
