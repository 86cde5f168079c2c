-- The bits that a list of half-bits forms.
use Rattle.std.proofs.Common.{◌≡◌, ℕ, suc, ◌+◌, ◌-◌, ◌*◌, ◌<◌, ◌≤◌, ◌^◌, Bool, false, cond, List, [], ◌∷◌}
use Rattle.std.proofs.Common.{◌++◌, length}
use Rattle.std.proofs.Common.{add-one, take, drop, map, get_or, refl, sym, ◌∙◌, arith, append_assoc}
use Rattle.std.proofs.Common.{append-nil, length-append, bit_xor}
use Rattle.std.proofs.Math.Seq.{take-add, take-suc}
use Rattle.std.proofs.Math.Nat.{pow-suc}
use Rattle.std.proofs.lemmas.List.{map-append, take_all, length-drop, length-take}
use Rattle.dcc_wire.specs.Bodies.{bits_of, halves_of}
use Rattle.dcc_wire.specs.Frames.{AllBytes, xor_of}
use Rattle.dcc_wire.specs.Half.{class_of}
use Rattle.dcc_wire.specs.Packed.{IsPacked, byte_bits, packed_bits}
use Rattle.dcc_wire.proofs.BitLemmas.{halves_of-append}
use Rattle.dcc_wire.proofs.ByteBits.{AllBytes-append}
use Rattle.dcc_wire.proofs.ErrorByte.{xor_of-append}
use Rattle.dcc_wire.proofs.PackedLemmas.{packed_bits-whole, shift_small}

-- the half-bits `halves` form bits, with which the bits `old` become the bits `new`
abbrev pub AddsBits : List Bool → List ℕ → List Bool → Type 0
AddsBits old halves new = (bits : List Bool) × (halves_of bits ≡ map class_of halves) × (new ≡ old ++ bits)

pub adds_none : (old : List Bool) → AddsBits old [] old
unfolding halves_of
adds_none old = ([], refl, sym (append-nil old))

pub adds_join : (old mid new : List Bool) (first next : List ℕ) → AddsBits old first mid → AddsBits mid next new
    → AddsBits old (first ++ next) new
adds_join old mid new first next one two = (
  one.0 ++ two.0,
  rw (halves_of-append, map-append, one.1, two.1) refl,
  rw (two.2, one.2, append_assoc) refl,
)

take_two : (halves : List ℕ) (at : ℕ) → at + 1 < length halves
    → take (at + 2) halves ≡ take at halves ++ get_or halves at 0 ∷ get_or halves (at + 1) 0 ∷ []
take_two halves at inside =
    let two : at + 2 ≡ suc (at + 1) = omega arith in
    let one : at + 1 ≡ suc at = omega arith in
    rw (two, take-suc halves (at + 1) 0 inside) (rw (one, take-suc halves at 0 (omega (arith, inside)))
    (append_assoc (take at halves) (get_or halves at 0 ∷ []) (get_or halves (suc at) 0 ∷ [])))

-- one more bit
pub adds_bit : (old mid new : List Bool) (halves : List ℕ) (at : ℕ) (bit : Bool) → at + 1 < length halves
    → halves_of (bit ∷ []) ≡ class_of (get_or halves at 0) ∷ class_of (get_or halves (at + 1) 0) ∷ []
    → AddsBits old (take at halves) mid → new ≡ mid ++ bit ∷ [] → AddsBits old (take (at + 2) halves) new
adds_bit old mid new halves at bit inside forms before is =
    rw (take_two halves at inside)
    (adds_join old mid new (take at halves) (get_or halves at 0 ∷ get_or halves (at + 1) 0 ∷ []) before
    (bit ∷ [], forms, is))

pub next_small : (count shift : ℕ) (bit : Bool) → 2 * shift < 2 ^ count → (count ≡ 0 → bit ≡ false)
    → 2 * (2 * shift + cond bit 1 0) < 2 ^ (count + 1)
next_small count shift bit zero_first zero_bit =
    rw (add-one count, pow-suc 2 count) (omega (arith, shift_small count shift bit zero_first zero_bit))

-- half-bits in the rest of a list
pub in_rest : (old mid new : List Bool) (halves : List ℕ) (at more : ℕ) → AddsBits old (take at halves) mid
    → AddsBits mid (take more (take (length halves - at) (drop at halves))) new
    → AddsBits old (take (at + more) halves) new
in_rest old mid new halves at more before next =
    let whole : take (length halves - at) (drop at halves) ≡ drop at halves =
    take_all _ _ (omega (arith, length-drop {A = ℕ})) in
    rw (take-add at more halves)
    (adds_join old mid new (take at halves) (take more (drop at halves)) before (rw whole at next))

-- bits after whole bytes
pub adds_packed : (bytes : List ℕ) (count shift more_count more_shift : ℕ) (halves : List ℕ)
    → AddsBits (bits_of count shift) halves (bits_of more_count more_shift)
    → AddsBits (packed_bits bytes count shift) halves (packed_bits bytes more_count more_shift)
unfolding packed_bits
adds_packed bytes count shift more_count more_shift halves adds =
    (adds.0, adds.1, rw adds.2 (sym (append_assoc (byte_bits bytes) (bits_of count shift) adds.0)))

pub rest_inside : {A : Type 0} (halves : List A) (at more : ℕ) → at ≤ length halves
    → more ≤ length (take (length halves - at) (drop at halves)) → at + more ≤ length halves
rest_inside halves at more inside few = omega (arith, inside, few, length-take (length halves - at) (drop at halves))

-- the end of a byte
pub adds_byte : (bytes : List ℕ) (count shift byte : ℕ) (halves : List ℕ) → byte < 256
    → AddsBits (packed_bits bytes count shift) halves (packed_bits bytes 9 byte)
    → AddsBits (packed_bits bytes count shift) halves (packed_bits (bytes ++ byte ∷ []) 0 0)
adds_byte bytes count shift byte halves small adds = (adds.0, adds.1, packed_bits-whole bytes byte small ∙ adds.2)

pub whole_packed : {bytes : List ℕ} {xor count shift : ℕ} (byte : ℕ) → IsPacked bytes xor count shift
    → length bytes < 6 → byte < 256 → IsPacked (bytes ++ byte ∷ []) (bit_xor xor byte) 0 0
unfolding AllBytes
whole_packed {bytes} {xor} byte packed room small =
    let each = AllBytes-append bytes (byte ∷ []) packed.each (small, tt) in
    let exclusive_or : bit_xor xor byte ≡ xor_of (bytes ++ byte ∷ []) = rw (xor_of-append, packed.exclusive_or) in
    search (arith, each, exclusive_or, length-append bytes (byte ∷ []))

pub part_packed : {bytes : List ℕ} {xor count shift : ℕ} (more_count more_shift : ℕ) → IsPacked bytes xor count shift
    → length bytes < 6 → more_count < 9 → 2 * more_shift < 2 ^ more_count
    → IsPacked bytes xor more_count more_shift
part_packed more_count more_shift packed room part zero_first = record {
  few = packed.few;
  each = packed.each;
  exclusive_or = packed.exclusive_or;
  part = omega (arith, part);
  zero_first = zero_first;
  room = λ some. room;
}

-- a byte of nine bits begins with a zero
pub nine_small : (count shift : ℕ) → count ≡ 9 → 2 * shift < 2 ^ count → shift < 256
nine_small count shift nine small = omega (arith, rw nine at small)
