use Rattle.std.proofs.Common.{refl, subst}
use Rattle.std.specs.Prelude.{IsTrue, ◌↔◌}
use Rattle.dcc_packet.specs.declared.packet.Packet.{Packet}
use Rattle.dcc_station.specs.Sending.{Displaces}
use Rattle.dcc_station.proofs.RingItems.{ring_get}
use Rattle.dcc_c.proofs.station_ring.DccRingPacketRing.is_displaced.Goals as goal

pub returns : goal.returns
returns c = record {
  displaces = λ entry found.
      let r = c.args.self.now in
      let is = ring_get r.packets r.fits refl c.index-self-from.result c.requires.inside
      (rw c.from.ensures c.place_behind-place.ensures) found in
      subst (λ (p : Packet). IsTrue c.is_displaced_by.result ↔ Displaces c.args.command.now p) is
      c.is_displaced_by.ensures;
}
