use Rattle.std.proofs.Common.{subst}
use Rattle.std.specs.Prelude.{IsTrue, ◌↔◌}
use Rattle.dcc_packet.specs.declared.packet.Packet.{Packet}
use Rattle.dcc_station.specs.Sending.{Displaces}
use Rattle.dcc_station.proofs.RingItems.{ring_get}
use Rattle.dcc_station.proofs.fixed_ring.FixedRingPacketRing.is_displaced.Goals as goal

pub returns : goal.returns
returns g c = record {
  displaces = λ entry found.
      let fits = c.self.invariant in
      subst (λ (p : Packet). IsTrue c.displaces.result ↔ Displaces c.args.command.now p)
      (ring_get c.self.inside.packets (fits.0, fits.1, fits.2, fits.4) c.self.view_is c.index-self-place_behind.result
      c.requires.inside
      c.place_behind.ensures found) c.displaces.ensures;
}
