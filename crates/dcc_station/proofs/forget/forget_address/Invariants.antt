use Rattle.std.proofs.Common.{◌≡◌}
use Rattle.std.specs.Prelude.{not}
use Rattle.dcc_station.specs.Sending.{has_address}
use Rattle.dcc_station.proofs.EntriesForgotten.{passed}
use Rattle.dcc_station.proofs.forget.forget_address.Given as goal

abbrev pub invariant-loop-at : goal.invariant-loop-at
invariant-loop-at g l =
    let old = g.R.PacketRing.buffer l.fn.entries in
    let now = g.R.PacketRing.buffer l.entries in
    (now.items ≡ passed (λ e. not (has_address l.address e)) l._at old.items) × (now.capacity ≡ old.capacity)
