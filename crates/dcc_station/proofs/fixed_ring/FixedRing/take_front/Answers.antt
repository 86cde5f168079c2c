use Rattle.dcc_station.proofs.RingItems.{ring_popped}
use Rattle.dcc_station.proofs.fixed_ring.FixedRing.take_front.Goals as goal

pub returns-clause-others : goal.returns-clause-others
returns-clause-others g c =
    let fits = c.self.invariant in
    ring_popped c.self.inside.packets (fits.0, fits.1, fits.2, fits.4) c.self.view_is c.requires
    c.place_behind-self-inside.ensures
