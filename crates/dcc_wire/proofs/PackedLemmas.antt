-- Bits that are kept as whole bytes and the bits behind them.
use Rattle.std.proofs.Common.{◌≡◌, ℕ, suc, zero, ◌+◌, ◌*◌, ◌<◌, ◌≤◌, Bool, true, false, cond, List, [], ◌∷◌, ◌++◌}
use Rattle.std.proofs.Common.{length, length-append, None, refl, sym, ap, ◌∙◌, arith, ◌^◌, bit_xor, add-one}
use Rattle.std.proofs.Common.{append_assoc, append-nil}
use Rattle.std.specs.Option.{option_map}
use Rattle.std.proofs.Math.Nat.{pow-suc, div-eq_of_lt, pow-le-pow_right}
use Rattle.dcc_wire.specs.Bodies.{bits_of}
use Rattle.dcc_wire.specs.Frames.{AllBytes, xor_of}
use Rattle.dcc_wire.specs.Inner.Steps.{answer_of}
use Rattle.dcc_wire.specs.Outcomes.{bytes_in}
use Rattle.dcc_wire.specs.Packed.{IsPacked, byte_bits, packed_bits}
use Rattle.dcc_wire.specs.Inner.OutcomeParts.{by_bits}
use Rattle.dcc_wire.proofs.ByteBits.{bits_of-bit, byte_bits-append, length-bits_of, AllBytes-append, bytes_in-byte}
use Rattle.dcc_wire.proofs.ByteBits.{bytes_in-closed, zero_short}
use Rattle.dcc_wire.proofs.ErrorByte.{xor_of-append}

pub packed_bits-more : (bytes : List ℕ) (count shift : ℕ) (bit : Bool)
    → packed_bits bytes (count + 1) (2 * shift + cond bit 1 0) ≡ packed_bits bytes count shift ++ bit ∷ []
unfolding packed_bits
packed_bits-more bytes count shift bit = rw (add-one count, bits_of-bit count shift bit, append_assoc)

-- a number below a power of two begins with a zero
small_first : (c s : ℕ) → s < 2 ^ c → bits_of (suc c) s ≡ false ∷ bits_of c s
unfolding bits_of
small_first c s small = rw (div-eq_of_lt small)

-- a whole byte behind its zero
pub packed_bits-whole : (bytes : List ℕ) (byte : ℕ) → byte < 256
    → packed_bits (bytes ++ byte ∷ []) 0 0 ≡ packed_bits bytes 9 byte
unfolding packed_bits byte_bits bits_of
packed_bits-whole bytes byte small =
    append-nil _ ∙ byte_bits-append bytes (byte ∷ []) ∙ ap (λ l. byte_bits bytes ++ l) (sym (small_first 8 byte small))

-- packed bits close no bytes, and an end bit behind whole bytes closes them, or a zero behind six

open_by : (n : ℕ) (bytes : List ℕ) (count shift : ℕ) → AllBytes bytes → length bytes ≤ n → count ≤ 8
    → 2 * shift < 2 ^ count → (0 < count → length bytes < n) → bytes_in n (packed_bits bytes count shift) ≡ None
unfolding packed_bits byte_bits bits_of bytes_in AllBytes
open_by n [] zero shift each few part zero_first room = refl
open_by zero [] (suc count) shift each few part zero_first room = absurd (omega (arith, room (omega arith)))
open_by (suc n) [] (suc count) shift each few part zero_first room =
    ap (bytes_in (suc n)) (small_first count shift (omega (arith, pow-suc 2 count, zero_first)))
    ∙ zero_short n (bits_of count shift) (omega (arith, length-bits_of count shift, part))
open_by zero (byte ∷ bytes) count shift each few part zero_first room = absurd (omega (arith, few))
open_by (suc n) (byte ∷ bytes) count shift each few part zero_first room =
    bytes_in-byte n byte (byte_bits bytes ++ bits_of count shift) each.0
    ∙ rw (open_by n bytes count shift each.1 (omega (arith, few)) part zero_first (λ some. omega (arith, room some)))

pub packed_open : {bytes : List ℕ} {xor count shift : ℕ} → IsPacked bytes xor count shift
    → bytes_in 6 (packed_bits bytes count shift) ≡ None
packed_open packed = open_by 6 _ _ _ packed.each packed.few packed.part packed.zero_first packed.room

pub answer-closed : {bytes : List ℕ} {xor count shift : ℕ} → IsPacked bytes xor count shift → count ≡ 0 → (bit : Bool)
    → (bit ≡ false → length bytes ≡ 6)
    → answer_of (option_map by_bits (bytes_in 6 (packed_bits bytes count shift ++ bit ∷ []))) ≡ (by_bits (bytes, bit)).1
unfolding packed_bits bits_of answer_of
answer-closed {bytes} packed none bit full =
    rw (none, append-nil (byte_bits bytes), bytes_in-closed 6 bytes bit [] packed.each packed.few full)

-- packed bits stay so

pub packed_none : IsPacked [] 0 0 0
unfolding AllBytes
packed_none = omega arith

-- where a zero comes first
pub shift_small : (count shift : ℕ) (bit : Bool) → 2 * shift < 2 ^ count → (count ≡ 0 → bit ≡ false)
    → 2 * shift + cond bit 1 0 < 2 ^ count
shift_small zero shift bit zero_first zero_bit = rw (zero_bit refl) (omega (arith, zero_first))
shift_small (suc count) shift true zero_first zero_bit = omega (arith, pow-suc 2 count, zero_first)
shift_small (suc count) shift false zero_first zero_bit = omega (arith, zero_first)

module _ {bytes : List ℕ} {xor count shift : ℕ} (bit : Bool) (packed : IsPacked bytes xor count shift)
    (zero_bit : count ≡ 0 → bit ≡ false) where
  shift_fits : 2 * shift + cond bit 1 0 < 256
  shift_fits =
      let small = shift_small count shift bit packed.zero_first zero_bit in
      let most : 2 ^ count ≤ 2 ^ 8 = pow-le-pow_right (omega arith) packed.part in
      omega (arith, small, most)

  -- the last bit of a byte
  pub packed_bits-byte : count ≡ 8
      → packed_bits (bytes ++ (2 * shift + cond bit 1 0) ∷ []) 0 0 ≡ packed_bits bytes count shift ++ bit ∷ []
  packed_bits-byte eight =
      packed_bits-whole bytes (2 * shift + cond bit 1 0) shift_fits
      ∙ ap (λ n. packed_bits bytes n (2 * shift + cond bit 1 0)) (omega (arith, eight))
      ∙ packed_bits-more bytes count shift bit

  pub packed_more : length bytes < 6 → count < 8 → IsPacked bytes xor (count + 1) (2 * shift + cond bit 1 0)
  packed_more room less =
      let next : 2 * (2 * shift + cond bit 1 0) < 2 ^ (count + 1) =
      rw (add-one count, pow-suc 2 count) (omega (arith, shift_small count shift bit packed.zero_first zero_bit)) in
      search (arith, next, room, packed)

  pub packed_whole : length bytes < 6
      → IsPacked (bytes ++ (2 * shift + cond bit 1 0) ∷ []) (bit_xor xor (2 * shift + cond bit 1 0)) 0 0
  unfolding AllBytes
  packed_whole room =
      let byte = 2 * shift + cond bit 1 0 in
      let each = AllBytes-append bytes (byte ∷ []) packed.each (shift_fits, tt) in
      let exclusive_or : bit_xor xor byte ≡ xor_of (bytes ++ byte ∷ []) = rw (xor_of-append, packed.exclusive_or) in
      search (arith, each, exclusive_or, length-append bytes (byte ∷ []))
