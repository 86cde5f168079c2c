-- What is in a ring after a step.
use Rattle.std.proofs.Common.{◌≡◌, ℕ, ◌+◌, ◌-◌, ◌<◌, ◌≤◌, List, [], ◌∷◌, ◌++◌, length, take, drop, set, get_or}
use Rattle.std.proofs.Common.{refl, sym, ap, ap₂, ◌∙◌, inl, inr, arith, append-nil, append_assoc}
use Rattle.std.proofs.Common.{length-append, length-drop, length-take-le}
use Rattle.std.proofs.Math.Seq.{take-set-lt, take-set-le, drop-set-lt, drop-set-add, set-append_left}
use Rattle.std.proofs.Math.Seq.{take-append-le, drop-append-le, drop-drop, take-add, take_all}
use Rattle.std.proofs.lemmas.List.{set-append_right, take_more_set, drop-take, drop_all}
use Rattle.std.proofs.lemmas.Option.{slice_get-get_or}
use Rattle.std.specs.Prelude.{slice_get, Some}
use Rattle.circular_buffer.specs.Buffer.{Buffer, buffer}
use Rattle.circular_buffer.specs.Places.{Wraps}
use Rattle.circular_buffer.proofs.Places.{slice_get-append_left, slice_get-append_right, slice_get-drop, slice_get-take}
use Rattle.dcc_station.specs.Rings.{ring_items}

module _ {X : Type 0} where
  -- all places, from the start on
  abbrev turned : ℕ → List X → List X
  turned start places = drop start places ++ take start places

  module _ {start len capacity cap : ℕ} (places : List X) {b : Buffer X}
      (inv : (start < cap) × (len ≤ capacity) × (capacity ≤ cap) × (length places ≡ cap))
      (view : buffer (ring_items start len places) capacity ≡ b) where
    length-turned : length (turned start places) ≡ cap
    length-turned = simp (length-append, length-drop) (omega (arith, length-take-le start places (omega arith)))

    pub length-ring : length b.items ≡ len
    length-ring = rw (← view) (length-take-le len (turned start places) (omega (arith, length-turned)))

    turned_set : (i at : ℕ) (x : X) → i < cap → Wraps start i cap at
        → turned start (set places at x) ≡ set (turned start places) i x
    turned_set i at x room wraps = elim wraps.1 [
      | inl e ↦ (
          let before : i < length (drop start places) = simp length-drop (omega arith) in
          ap₂ ◌++◌ (ap (λ n. drop start (set places n x)) e ∙ drop-set-add start places i x)
          (take-set-le start places at x (omega arith))
          ∙ sym (set-append_left (drop start places) (take start places) i x before)
          )
      | inr e ↦ (
          let same : at ≡ i - (length places - start) = omega arith in
          ap₂ ◌++◌ (drop-set-lt start places at x (omega arith))
          (take-set-lt start places at x (omega arith) ∙ ap (λ n. set (take start places) n x) same)
          ∙ sym (set-append_right (drop start places) (take start places) (length places - start) i x
          (length-drop start places) (omega arith))
          )
    ]

    -- one is written behind the others
    pub ring_pushed : {at : ℕ} (x : X) → length b.items < b.capacity → Wraps start len cap at
        → buffer (ring_items start (len + 1) (set places at x)) capacity ≡ buffer (b.items ++ x ∷ []) b.capacity
    ring_pushed {at = at} x room wraps =
        let same : b.capacity ≡ capacity = rw (← view) refl in
        let few : len < cap = omega (arith, length-ring) in
        rw (← view, turned_set len at x few wraps)
        (ap (λ l. buffer l capacity) (take_more_set (turned start places) len x (omega (arith, length-turned))))

    -- one is written over another
    pub ring_set : {i at : ℕ} (x : X) → i < length b.items → Wraps start i cap at
        → buffer (ring_items start len (set places at x)) capacity ≡ buffer (set b.items i x) b.capacity
    ring_set {i = i} {at = at} x low wraps =
        let few : i < len = omega (arith, length-ring) in
        rw (← view, turned_set i at x (omega arith) wraps)
        (ap (λ l. buffer l capacity) (take-set-lt len (turned start places) i x few))

    turned_next : turned (start + 1) places ≡ drop 1 (turned start places) ++ take 1 (drop start places)
    turned_next =
        let some : 1 ≤ length (drop start places) = simp length-drop (omega arith) in
        rw (drop-append-le 1 (drop start places) (take start places) some, drop-drop, take-add, append_assoc) refl

    turned_at : (next : ℕ) → Wraps start 1 cap next → turned next places ≡ turned (start + 1) places
    turned_at next wraps = elim wraps.1 [
      | inl e ↦ ap (λ n. turned n places) e
      | inr e ↦ (
          let first : next ≡ 0 = omega arith in
          rw (first, append-nil, drop_all (start + 1) places (omega arith), take_all (start + 1) places (omega arith))
          refl)
    ]

    -- the front one is taken away
    pub ring_popped : {next : ℕ} → 0 < length b.items → Wraps start 1 cap next
        → buffer (ring_items next (len - 1) places) capacity ≡ buffer (drop 1 b.items) b.capacity
    ring_popped {next = next} some wraps =
        let all = turned start places in
        let few : len - 1 ≤ length (drop 1 all) = simp length-drop (omega (arith, length-turned)) in
        let whole : 1 + (len - 1) ≡ len = omega (arith, length-ring) in
        rw (← view, turned_at next wraps, turned_next) (ap (λ l. buffer l capacity)
        (take-append-le (len - 1) (drop 1 all) (take 1 (drop start places)) few
        ∙ sym (drop-take 1 (len - 1) all) ∙ ap (λ n. drop 1 (take n all)) whole))

    -- the one so many behind the front one
    pub ring_get : {i at : ℕ} (default : X) {x : X} → i < length b.items → Wraps start i cap at
        → slice_get b.items i ≡ Some x → get_or places at default ≡ x
    ring_get {i = i} {at = at} default {x = x} low wraps found =
        let few : i < len = omega (arith, length-ring) in
        let some : slice_get (turned start places) i ≡ slice_get places at = elim wraps.1 [
          | inl e ↦ (
              let before : i < length (drop start places) = simp length-drop (omega arith) in
              slice_get-append_left (drop start places) (take start places) i before
              ∙ slice_get-drop start places i at e
              )
          | inr e ↦ (
              let behind : i ≡ length (drop start places) + at = simp length-drop (omega arith) in
              slice_get-append_right (drop start places) (take start places) i at behind
              ∙ slice_get-take start places at (omega arith)
              )
        ] in
        let is : Some (get_or places at default) ≡ Some x =
        sym (slice_get-get_or places at default (omega arith)) ∙ sym some
        ∙ sym (slice_get-take len (turned start places) i few) ∙ (rw (← view) at found) in cc

    -- the front one
    pub ring_front : (default : X) → 0 < length b.items → slice_get b.items 0 ≡ Some (get_or places start default)
    ring_front default some =
        let here : Wraps start 0 cap start = (inv.0, inl (omega arith)) in
        let is = slice_get-get_or b.items 0 default some in
        is ∙ ap Some (sym (ring_get default some here is))
