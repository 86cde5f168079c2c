use Rattle.std.proofs.Common.{refl}
use Rattle.dcc_station.proofs.RingItems.{ring_pushed}
use Rattle.dcc_c.proofs.station_ring.DccRing.add.Goals as goal

pub returns : goal.returns
returns c =
    let r = c.args.self.now in
    rw c.from.ensures
    (ring_pushed r.packets r.fits refl c.args.packet c.requires c.place_behind-behind.ensures)
