-- Definitions that only contracts of private functions use.
use Rattle.std.specs.Prelude.{◌≡◌, ◌≤◌, ℕ, suc, zero, ◌+◌, ◌-◌, ◌*◌, min, Option, None, Some}
use Rattle.std.specs.Prelude.{List, [], ◌∷◌, ◌++◌, length, get_or}
use Rattle.std.specs.Option.{option_map}
use Rattle.dcc_wire.specs.declared.half.Half.TheVariants.{One, Zero}
use Rattle.dcc_wire.specs.declared.seen.Seen.{Seen}
use Rattle.dcc_wire.specs.declared.seen.Seen.TheVariants.{Nothing, Packet, Refused}
use Rattle.dcc_wire.specs.Outcomes.{ones_left}
use Rattle.dcc_timing.specs.Inner.Steps.{lesser}
use Rattle.dcc_lost.specs.Nearest.{nearest_class}

-- the new number of unused half-bits at the end of a list, to which one half-bit was appended. A
-- framer returned the given outcome for this half-bit. The old number was `unused`.
unfoldable pub unused_next : ℕ → Seen → ℕ
unused_next unused Nothing = min 20 (unused + 1)
unused_next unused (Packet bytes) = ones_left (Packet bytes)
unused_next unused (Refused fault) = ones_left (Refused fault)

-- the new number of half-bits after the last refusal in a list, to which one half-bit was appended.
-- A framer returned the given outcome for this half-bit. The old number was `since`.
unfoldable pub since_next : Option ℕ → Seen → Option ℕ
since_next since Nothing = option_map (λ n. min 255 (n + 1)) since
since_next since (Packet bytes) = None
since_next since (Refused fault) = Some 0

-- The frame of the packet that ends with a half-bit. If the outcome of this half-bit is no packet, the
-- result is `lost`, the frame of the packet that is lost there.
abbrev pub frame_ended : Seen → Option (List ℕ) → Option (List ℕ)
frame_ended Nothing lost = lost
frame_ended (Packet bytes) lost = Some bytes
frame_ended (Refused fault) lost = lost

-- the lesser of the numbers in two options, or `None` if there is no number
abbrev pub lesser_of : Option ℕ → Option ℕ → Option ℕ
lesser_of other None = other
lesser_of other (Some number) = Some (lesser other number)

-- `halves` are 56 half-bits, as many as the body of three bytes has. The half-bits at the places 0,
-- 18 and 36 have the nearest class Zero. In a body of three bytes, these half-bits begin the zeros
-- before the bytes.
abbrev pub HasStartBits : List ℕ → Type 0
HasStartBits halves =
    (length halves ≡ 56) × (nearest_class (get_or halves 0 0) ≡ Zero) × (nearest_class (get_or halves 18 0) ≡ Zero)
    × (nearest_class (get_or halves 36 0) ≡ Zero)

-- a body can begin after the place `at` of `halves`: the half-bit at this place has the nearest class
-- One, and the next half-bit has the nearest class Zero
abbrev pub BeginsBody : List ℕ → ℕ → Type 0
BeginsBody halves at = (nearest_class (get_or halves at 0) ≡ One) × (nearest_class (get_or halves (at + 1) 0) ≡ Zero)

-- The half-bits `last` are the last 130 half-bits of a list, and `n + 1` half-bits of ones follow
-- them. A body of three to six bytes can begin that ends with the last of these ones: a body of `m`
-- bytes has `18 * m + 2` half-bits.
abbrev pub CanBeginBody : List ℕ → ℕ → Type 0
CanBeginBody last n = (m : ℕ) × (3 ≤ m) × (m ≤ 6) × BeginsBody last (n + 128 - 18 * m)

-- The half-bits `last` are the last 130 half-bits of a list, and `n + 1` half-bits of ones follow
-- them. In the longer list the half-bits that begin the zeros before the last three bytes have the
-- nearest class Zero, and a body can begin.
abbrev pub CanEndFrame : List ℕ → ℕ → Type 0
CanEndFrame last n =
    (nearest_class (get_or last (n + 75) 0) ≡ Zero) × (nearest_class (get_or last (n + 93) 0) ≡ Zero)
    × (nearest_class (get_or last (n + 111) 0) ≡ Zero) × CanBeginBody last n

-- the `n` numbers from `first` on, each at most 65535
unfoldable pub rising : ℕ → ℕ → List ℕ
rising first zero = []
rising first (suc n) = rising first n ++ min 65535 (first + n) ∷ []
