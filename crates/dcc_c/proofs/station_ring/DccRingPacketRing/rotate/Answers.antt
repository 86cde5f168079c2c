use Rattle.std.proofs.Common.{◌≡◌, ◌<◌, ◌++◌, ◌∷◌, ◌∙◌, [], List, Some, length, length-drop, drop, take, get_or}
use Rattle.std.proofs.Common.{refl, ap, inl}
use Rattle.std.proofs.Common.{arith}
use Rattle.std.specs.Prelude.{slice_get}
use Rattle.circular_buffer.specs.Buffer.{Buffer, buffer}
use Rattle.circular_buffer.specs.Places.{Wraps}
use Rattle.dcc_packet.specs.declared.packet.Packet.{Packet}
use Rattle.dcc_station.specs.Rings.{ring_items}
use Rattle.dcc_station.proofs.RingItems.{length-ring, ring_get}
use Rattle.dcc_c.proofs.station_ring.DccRingPacketRing.rotate.Goals as goal

pub add-requires : goal.add-requires
add-requires c =
    let r = c.args.self.now in
    let left = c.remove_front.ensures in
    let long = length-ring r.packets r.fits refl in
    let fewer = ap (λ (b : Buffer Packet). length b.items) left ∙ length-drop 1 (ring_items r.start r.len r.packets) in
    let room = ap (λ (b : Buffer Packet). b.capacity) left in
    let some = c.if-self-eq0.false in
    let fits = r.fits in
    omega arith

-- what stands first in a list is its front
front_is : (l : List Packet) (front : Packet) → 0 < length l → ((x : Packet) → slice_get l 0 ≡ Some x → front ≡ x)
    → front ∷ [] ≡ take 1 l
front_is [] front some is = absurd (omega (arith, some))
front_is (x ∷ l) front some is = rw (is x refl) refl

pub returns : goal.returns
returns c =
    let r = c.args.self.now in
    let items = ring_items r.start r.len r.packets in
    let front = get_or r.packets c.from.result c.index-self-from.result in
    let some : 0 < length items = omega (arith, length-ring r.packets r.fits refl, c.if-self-eq0.false) in
    let wraps : Wraps r.start 0 128 r.start = (r.fits.0, inl (omega arith)) in
    c.add.ensures ∙ ap (λ (b : Buffer Packet). buffer (b.items ++ front ∷ []) b.capacity) c.remove_front.ensures
    ∙ ap (λ (l : List Packet). buffer (drop 1 items ++ l) r.capacity)
    (front_is items front some
    (λ x found. rw c.from.ensures (ring_get r.packets r.fits refl c.index-self-from.result some wraps found)))
