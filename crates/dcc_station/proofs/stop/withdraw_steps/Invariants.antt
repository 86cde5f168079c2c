use Rattle.std.proofs.Common.{◌≡◌}
use Rattle.std.specs.Prelude.{not}
use Rattle.dcc_regs.specs.Safety.{can_move}
use Rattle.dcc_station.proofs.EntriesForgotten.{passed}
use Rattle.dcc_station.proofs.stop.withdraw_steps.Given as goal

abbrev pub invariant-loop-at : goal.invariant-loop-at
invariant-loop-at g l =
    let old = g.Q.PacketRing.buffer l.fn.waiting in
    let now = g.Q.PacketRing.buffer l.waiting in
    (now.items ≡ passed (λ p. not (can_move p)) l._at old.items) × (now.capacity ≡ old.capacity)
