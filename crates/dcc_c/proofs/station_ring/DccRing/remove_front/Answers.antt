use Rattle.std.proofs.Common.{refl}
use Rattle.dcc_station.proofs.RingItems.{ring_popped}
use Rattle.dcc_c.proofs.station_ring.DccRing.remove_front.Goals as goal

pub returns : goal.returns
returns c = let r = c.args.self.now in ring_popped r.packets r.fits refl c.requires c.place_behind-self.ensures
