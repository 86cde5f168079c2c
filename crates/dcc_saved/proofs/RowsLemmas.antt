-- Numbers of a line, written one by one.
use Rattle.std.proofs.Common.{zero, suc, ◌≡◌, ℕ, ◌+◌, ◌^◌, Bool, true, false, List, [], ◌∷◌, ◌++◌, if◌then◌else◌}
use Rattle.std.proofs.Common.{◌/◌, ◌<◌, add-one, add-zero, zero-add, append_assoc, arith, refl, ap, lt_of_lt_of_le}
use native.Mathlib.Nat.{pow-succ'}
use Rattle.std.specs.Fmt.{decimal}
use Rattle.std.proofs.lemmas.List.{append-nil}
use Rattle.std.proofs.lemmas.Nat.Bits.{bit_at-suc}
use Rattle.dcc_packet.specs.Bits.{is_one}
use Rattle.std.proofs.Math.Pow.{pow_mono}
use Rattle.dcc_packet.specs.Words.{Word}
use Rattle.dcc_packet.specs.Written.{spaced_words}
use Rattle.dcc_packet.proofs.FieldsBack.{spaced_both}
use Rattle.dcc_saved.specs.DecoderLines.{numbers_on}
use Rattle.dcc_saved.specs.FleetText.{bits_on}

pub numbers_none : (bytes : List ℕ) (bits : ℕ) → bytes ++ spaced_words (numbers_on 0 0 bits) ≡ bytes
unfolding numbers_on
numbers_none bytes bits = append-nil bytes

one_more : (n more bits : ℕ) → numbers_on n (suc more) bits
    ≡ numbers_on n more bits ++ (if is_one bits more then decimal (n + more) ∷ [] else [])
unfolding numbers_on
one_more n zero bits = rw add-zero (append-nil _)
one_more n (suc more) bits =
    let first : List Word = if is_one bits 0 then decimal n ∷ [] else [] in
    let next : n + 1 + more ≡ n + suc more = omega arith in
    rw (bit_at-suc bits more, ← next, append_assoc)
    (ap (λ (words : List Word). first ++ words) (one_more (n + 1) more (bits / 2)))

pub numbers_next : (bytes : List ℕ) (n bits : ℕ)
    → bytes ++ spaced_words (numbers_on 0 (n + 1) bits)
    ≡ (bytes ++ spaced_words (numbers_on 0 n bits)) ++ spaced_words (if is_one bits n then decimal n ∷ [] else [])
numbers_next bytes n bits =
    rw (add-one, one_more 0 n bits, zero-add, spaced_both (numbers_on 0 n bits) _) (simp append_assoc)

pub bits_none : (on : ℕ → Bool) → bits_on on 0 ≡ 0
unfolding bits_on
bits_none on = refl

pub bits_next : (on : ℕ → Bool) (n : ℕ) → bits_on on (n + 1) ≡ bits_on on n + (if on n then 2 ^ n else 0)
unfolding bits_on
bits_next on n = rw add-one (omega arith)

one_bit : (b : Bool) (n v : ℕ) → v < 2 ^ n → (if b then 2 ^ n else 0) + v < 2 ^ suc n
one_bit true n v fits = omega (arith, fits, pow-succ' 2 n)
one_bit false n v fits = omega (arith, fits, pow-succ' 2 n)

pub bits_fit : (on : ℕ → Bool) (n : ℕ) → bits_on on n < 2 ^ n
unfolding bits_on
bits_fit on zero = omega arith
bits_fit on (suc n) = one_bit (on n) n (bits_on on n) (bits_fit on n)

-- one more has room
pub bits_room : (on : ℕ → Bool) (n : ℕ) → n < 128 → bits_on on n + (if on n then 2 ^ n else 0) < 2 ^ 128
bits_room on n few =
    rw (← (bits_next on n)) (lt_of_lt_of_le (bits_fit on (n + 1)) (pow_mono {j = 128} (omega (arith, few))))
