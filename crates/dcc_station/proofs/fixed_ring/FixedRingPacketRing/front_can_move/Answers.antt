use Rattle.std.proofs.Common.{◌<◌, ◌∙◌, sym, ap, false, length, arith}
use Rattle.std.specs.Option.{option_map_or}
use Rattle.dcc_regs.specs.Safety.{can_move}
use Rattle.dcc_station.proofs.RingItems.{length-ring, ring_front}
use Rattle.dcc_station.proofs.fixed_ring.FixedRingPacketRing.front_can_move.Goals as goal

pub returns-then-self-gt0 : goal.returns-then-self-gt0
returns-then-self-gt0 g c =
    let r = c.self.inside in
    let inv = c.self.invariant in
    let some : 0 < length c.args.self.now.items =
    omega (arith, c.if-self-gt0.true, length-ring r.packets (inv.0, inv.1, inv.2, inv.4) c.self.view_is) in
    c.can_move.ensures
    ∙ sym (ap (λ packet. option_map_or (can_move) packet false)
    (ring_front r.packets (inv.0, inv.1, inv.2, inv.4) c.self.view_is c.index-self-self.result some))
