use Rattle.std.proofs.Common.{arith}
use Rattle.dcc_station.proofs.RingItems.{ring_get, ring_set}
use Rattle.dcc_station.proofs.fixed_ring.FixedRingPacketRing.move_forward.Goals as goal

pub returns : goal.returns
returns g c = record {
  items = λ packet found.
      let fits = c.self.invariant in
      rw (ring_get c.self.inside.packets (fits.0, fits.1, fits.2, fits.4) c.self.view_is c.index-self-from.result
      c.requires.inside
      c.place_behind-from.ensures found)
      (ring_set c.self.inside.packets (fits.0, fits.1, fits.2, fits.4) c.self.view_is packet
      (omega (arith, c.requires.order, c.requires.inside)) c.place_behind-to.ensures);
}
