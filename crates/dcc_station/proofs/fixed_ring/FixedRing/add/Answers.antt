use Rattle.dcc_station.proofs.RingItems.{ring_pushed}
use Rattle.dcc_station.proofs.fixed_ring.FixedRing.add.Goals as goal

pub returns : goal.returns
returns g c =
    let fits = c.self.invariant in
    ring_pushed c.self.inside.packets (fits.0, fits.1, fits.2, fits.4) c.self.view_is c.args.packet c.requires
    c.place_behind-behind.ensures
