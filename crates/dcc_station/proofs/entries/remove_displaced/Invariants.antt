use Rattle.std.proofs.Common.{◌≡◌}
use Rattle.dcc_station.proofs.EntriesLeft.{Passed}
use Rattle.dcc_station.proofs.entries.remove_displaced.Given as goal

abbrev pub invariant-loop-at : goal.invariant-loop-at
invariant-loop-at g l =
    let old = g.R.PacketRing.buffer l.fn.entries in
    let now = g.R.PacketRing.buffer l.entries in
    Passed l.command l.at l.kept old.items now.items × (now.capacity ≡ old.capacity)
