use Rattle.std.proofs.Common.{◌≡◌, ◌≤◌, ◌+◌, List, None, length}
use Rattle.dcc_packet.specs.declared.packet.Packet.{Packet}
use Rattle.dcc_io.specs.InputState.{InputState}
use Rattle.dcc_listen.specs.Taking.{Gathering}
use Rattle.dcc_listen.proofs.taking.next_packet.Given as goal

abbrev pub invariant-runs : goal.invariant-runs
invariant-runs g l = record {
  fault : l.input.fault ≡ None;
  bytes : l.input.bytes + length l.pending ≤ l.initial.input.bytes + length l.initial.pending;
  gathers : (start : InputState) (packets : List Packet) → start.fault ≡ None
      → Gathering start l.initial.input l.initial.pending l.initial.framer packets
      → Gathering start l.input l.pending l.framer packets;
}

abbrev pub decreases-runs : goal.decreases-runs
decreases-runs g l = l.input.bytes + length l.pending
