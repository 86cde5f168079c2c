use Rattle.std.proofs.Common.{◌≡◌, ◌∙◌, sym, ap, set, get_or, refl, arith}
use Rattle.std.proofs.lemmas.List.{set-get_or}
use Rattle.std.proofs.lemmas.Option.{get_or_from_slice_get}
use Rattle.dcc_c.specs.Stations.{ring_of}
use Rattle.dcc_station.proofs.RingItems.{ring_get, ring_set}
use Rattle.dcc_c.proofs.station_ring.DccRingPacketRing.move_forward.Goals as goal

pub returns-then-from-to : goal.returns-then-from-to
returns-then-from-to c = record {
  items = λ packet found.
      let r = c.args.self.now in
      let same : c.args.to ≡ c.args.from = sym c.if-from-to.true in
      let is = get_or_from_slice_get (ring_of r).items c.args.from packet packet found in
      let kept : set (ring_of r).items c.args.from packet ≡ (ring_of r).items =
      ap (set (ring_of r).items c.args.from) (sym is) ∙ set-get_or (ring_of r).items c.args.from packet in
      rw (same, kept) refl;
}

pub returns : goal.returns
returns c = record {
  items = λ packet found.
      let r = c.args.self.now in
      let is : get_or r.packets c.from.result c.index-self-from.result ≡ packet =
      ring_get r.packets r.fits refl c.index-self-from.result c.requires.inside
      (rw c.from.ensures c.place_behind-from.ensures) found in
      rw is
      (ring_set r.packets r.fits refl packet (omega (arith, c.requires.order, c.requires.inside))
      (rw c.from-2.ensures c.place_behind-to.ensures));
}
