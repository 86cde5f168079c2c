-- The bits of a byte, and a byte with one bit changed.
use Rattle.std.proofs.Common.{◌≡◌, ◌≢◌, ℕ, zero, suc, ◌-◌, ◌*◌, ◌^◌, ◌%◌, ◌<◌, ◌≤◌, Bool, true, false, refl}
use Rattle.std.proofs.Common.{arith, bit_and, bit_or, w8, ap, sym, ◌∙◌}
use Rattle.std.specs.Prelude.{◌==◌, ◌&&◌, if◌then◌else◌}
use Rattle.std.specs.Int.{bit_at}
use Rattle.std.proofs.lemmas.Grind.{common_steps}
use Rattle.std.proofs.lemmas.Bool.{and_parts}
use Rattle.std.proofs.lemmas.Bool.Decides.{Decides-eqb, nat_tests}
use Rattle.std.proofs.lemmas.Nat.{or_lt, and_le_l}
use Rattle.std.proofs.lemmas.Nat.Bits.{bit_at_or, bit_at-lt, bit_at-pow_same, bit_at-pow_other}
use Rattle.std.proofs.lemmas.Nat.Bits.{bit_at_clear_same, bit_at_clear_other}
use Rattle.dcc_packet.specs.Bits.{is_one, byte_of, with_bit}
use Rattle.dcc_packet.specs.Rows.{bit}
use Rattle.dcc_packet.proofs.Same.{bit_below}

pub same_bit : (byte mask k : ℕ) → mask ≡ 2 ^ k → is_one (bit_or byte mask) k ≡ true
same_bit byte mask k e =
    let m : bit_at mask k ≡ 1 = rw e (bit_at-pow_same k) in
    let s = bit_at-lt byte k in
    let b : bit_at (bit_or byte mask) k ≡ 1 = rw (bit_at_or byte mask k) (omega arith) in
    rw b refl

pub other_bit : (byte mask k place : ℕ) → mask ≡ 2 ^ place → k ≢ place → is_one (bit_or byte mask) k ≡ is_one byte k
other_bit byte mask k place e ne =
    let m : bit_at mask k ≡ 0 = rw e (bit_at-pow_other place k ne) in
    let b : bit_at (bit_or byte mask) k ≡ bit_at byte k = rw (bit_at_or byte mask k) (omega arith) in
    rw b refl

-- a choice by a test, and by a test of two numbers
by_bool : {A : Type 0} (t : Bool) (x a b : A) → (t ≡ true → x ≡ a) → (t ≡ false → x ≡ b) → x ≡ (if t then a else b)
by_bool true x a b f g = f refl
by_bool false x a b f g = g refl

pub by_number : {A : Type 0} (k n : ℕ) (x a b : A) → (k ≡ n → x ≡ a) → (k ≢ n → x ≡ b) → x ≡ (if k == n then a else b)
by_number k n x a b f g =
    by_bool (k == n) x a b (λ t. f ((Decides-eqb k n).0 t))
    (λ t. g (λ e. let same : (k == n) ≡ true = (Decides-eqb k n).1 e in cc))

pub bit_put : (byte place mask k : ℕ) → mask ≡ 2 ^ place
    → is_one (bit_or byte mask) k ≡ (if k == place then true else is_one byte k)
bit_put byte place mask k e =
    by_number k place _ _ _ (λ same. same_bit byte mask k (rw same e)) (λ ne. other_bit byte mask k place e ne)

pub bit_cleared : (byte place k : ℕ) → place ≤ 7 → k ≤ 7
    → is_one (bit_and byte (255 - 1 * 2 ^ place % 256)) k ≡ (if k == place then false else is_one byte k)
bit_cleared byte place k here there =
    by_number k place _ _ _
    (λ same.
    let b : bit_at (bit_and byte (255 - 1 * 2 ^ place % 256)) place ≡ 0 =
    bit_at_clear_same w8 byte place (omega arith) in rw (same, b) refl)
    (λ other.
    let b : bit_at (bit_and byte (255 - 1 * 2 ^ place % 256)) k ≡ bit_at byte k =
    bit_at_clear_other w8 byte place (omega arith) k (omega arith) other in rw b refl)

pub shifted_one : (place : ℕ) → place ≤ 7 → 1 * 2 ^ place % 256 ≡ 2 ^ place
shifted_one place h = grind (arith, common_steps)

-- a byte is made of its bits: tried for each
abbrev all_below : ℕ → (ℕ → Bool) → Bool
all_below zero test = true
all_below (suc n) test = test n && all_below n test

pub either_by : {A : Type 0} (k n : ℕ) (t : Bool) → (k == n) ≡ t → (k ≡ n → A) → (k ≢ n → A) → A
either_by k n true e f g = f ((Decides-eqb k n).0 e)
either_by k n false e f g = g (λ same. let yes : (k == n) ≡ true = (Decides-eqb k n).1 same in cc)

at_below : (n : ℕ) (test : ℕ → Bool) (k : ℕ) → all_below n test ≡ true → k < n → test k ≡ true
at_below zero test k all h = absurd (omega arith)
at_below (suc n) test k all h =
    let parts : (test n ≡ true) × (all_below n test ≡ true) = and_parts (test n) (all_below n test) all in
    either_by k n (k == n) refl (λ e. rw e parts.0) (λ ne. at_below n test k parts.1 (omega arith))

abbrev rebuilt : ℕ → Bool
rebuilt byte = byte_of (is_one byte) == byte

all_rebuilt : all_below 256 rebuilt ≡ true
all_rebuilt = refl

pub byte_of_bits : (byte : ℕ) → byte < 256 → byte_of (is_one byte) ≡ byte
byte_of_bits byte h = (Decides-eqb (byte_of (is_one byte)) byte).0 (at_below 256 rebuilt byte all_rebuilt h)

-- bytes of the same bits are one
pub same_byte : (f g : ℕ → Bool) → ((k : ℕ) → k ≤ 7 → f k ≡ g k) → byte_of f ≡ byte_of g
same_byte f g same =
    rw (
      same 0 (omega arith),
      same 1 (omega arith),
      same 2 (omega arith),
      same 3 (omega arith),
      same 4 (omega arith),
      same 5 (omega arith),
      same 6 (omega arith),
      same 7 (omega arith),
    ) refl

pub bit_of_digit : (r : ℕ) → r < 2 → bit (r == 1) ≡ r
bit_of_digit zero h = refl
bit_of_digit (suc zero) h = refl
bit_of_digit (suc (suc r)) h = absurd (omega arith)

digit_of_bit : (one : Bool) → (bit one == 1) ≡ one
digit_of_bit true = refl
digit_of_bit false = refl

at_weight : (one : Bool) (w : ℕ) → (if one then w else 0) ≡ w * bit one
at_weight true w = omega arith
at_weight false w = omega arith

-- the eight places of a byte
by_place : (P : ℕ → Type 0) → P 0 → P 1 → P 2 → P 3 → P 4 → P 5 → P 6 → P 7 → (k : ℕ) → k ≤ 7 → P k
by_place P a b c d e f g h zero l = a
by_place P a b c d e f g h (suc zero) l = b
by_place P a b c d e f g h (suc (suc zero)) l = c
by_place P a b c d e f g h (suc (suc (suc zero))) l = d
by_place P a b c d e f g h (suc (suc (suc (suc zero)))) l = e
by_place P a b c d e f g h (suc (suc (suc (suc (suc zero))))) l = f
by_place P a b c d e f g h (suc (suc (suc (suc (suc (suc zero)))))) l = g
by_place P a b c d e f g h (suc (suc (suc (suc (suc (suc (suc zero))))))) l = h
by_place P a b c d e f g h (suc (suc (suc (suc (suc (suc (suc (suc k)))))))) l = absurd (omega arith)

-- a byte that is made of bits has them
bit_at-byte_of : (f : ℕ → Bool) (k : ℕ) → k ≤ 7 → bit_at (byte_of f) k ≡ bit (f k)
bit_at-byte_of f =
    let w0 = at_weight (f 0) 1 in
    let w1 = at_weight (f 1) 2 in
    let w2 = at_weight (f 2) 4 in
    let w3 = at_weight (f 3) 8 in
    let w4 = at_weight (f 4) 16 in
    let w5 = at_weight (f 5) 32 in
    let w6 = at_weight (f 6) 64 in
    let w7 = at_weight (f 7) 128 in
    let b0 = bit_below (f 0) in
    let b1 = bit_below (f 1) in
    let b2 = bit_below (f 2) in
    let b3 = bit_below (f 3) in
    let b4 = bit_below (f 4) in
    let b5 = bit_below (f 5) in
    let b6 = bit_below (f 6) in
    let b7 = bit_below (f 7) in
    by_place (λ k. bit_at (byte_of f) k ≡ bit (f k)) (omega arith) (omega arith) (omega arith) (omega arith)
    (omega arith) (omega arith) (omega arith) (omega arith)

pub is_one-byte_of : (f : ℕ → Bool) (k : ℕ) → k ≤ 7 → is_one (byte_of f) k ≡ f k
is_one-byte_of f k h = ap (λ n. n == 1) (bit_at-byte_of f k h) ∙ digit_of_bit (f k)

pub byte_of-lt : (f : ℕ → Bool) → byte_of f < 256
byte_of-lt f =
    let w = λ (k weight : ℕ). at_most (f k) weight in
    omega (arith, w 0 1, w 1 2, w 2 4, w 3 8, w 4 16, w 5 32, w 6 64, w 7 128)
  where
    at_most : (one : Bool) (weight : ℕ) → (if one then weight else 0) ≤ weight
    at_most true weight = omega arith
    at_most false weight = omega arith

-- the bit that is changed, and the others
pub bit_at-with_bit : (byte k : ℕ) (one : Bool) → k ≤ 7 → bit_at (with_bit byte k one) k ≡ bit one
unfolding with_bit
bit_at-with_bit byte k one h =
    bit_at-byte_of (λ j. if j == k then one else is_one byte j) k h
    ∙ ap (λ (t : Bool). bit (if t then one else is_one byte k)) ((Decides-eqb k k).1 refl)

pub bit_at-with_bit-other : (byte k j : ℕ) (one : Bool) → j ≤ 7 → j ≢ k
    → bit_at (with_bit byte k one) j ≡ bit_at byte j
unfolding with_bit
bit_at-with_bit-other byte k j one h ne =
    let other : (j == k) ≡ false = grind (arith, nat_tests) in
    bit_at-byte_of (λ i. if i == k then one else is_one byte i) j h
    ∙ ap (λ (t : Bool). bit (if t then one else is_one byte j)) other ∙ bit_of_digit (bit_at byte j) (bit_at-lt byte j)

chosen_again : (t one old new : Bool) → new ≡ (if t then one else old)
    → (if t then one else new) ≡ (if t then one else old)
chosen_again true one old new e = refl
chosen_again false one old new e = e

-- a bit that is changed again alike
pub with_bit-again : (byte k : ℕ) (one : Bool) → with_bit (with_bit byte k one) k one ≡ with_bit byte k one
unfolding with_bit
with_bit-again byte k one =
    same_byte (λ j. if j == k then one else is_one (byte_of (λ i. if i == k then one else is_one byte i)) j)
    (λ j. if j == k then one else is_one byte j)
    (λ j h.
    chosen_again (j == k) one (is_one byte j) _ (is_one-byte_of (λ i. if i == k then one else is_one byte i) j h))

-- a byte is known by its bits
known_by_bits : (result byte place : ℕ) (one : Bool) → result < 256
    → ((k : ℕ) → k ≤ 7 → is_one result k ≡ (if k == place then one else is_one byte k))
    → result ≡ with_bit byte place one
unfolding with_bit
known_by_bits result byte place one small bits =
    sym (byte_of_bits result small)
    ∙ same_byte (is_one result) (λ k. if k == place then one else is_one byte k) bits

pub with_bit-put : (byte place : ℕ) → byte < 256 → place ≤ 7
    → bit_or byte (1 * 2 ^ place % 256) ≡ with_bit byte place true
with_bit-put byte place small h =
    known_by_bits _ byte place true (or_lt 8 byte (1 * 2 ^ place % 256) (omega arith) (omega arith))
    (λ k le. bit_put byte place _ k (shifted_one place h))

pub with_bit-cleared : (byte place : ℕ) → byte < 256 → place ≤ 7
    → bit_and byte (255 - 1 * 2 ^ place % 256) ≡ with_bit byte place false
with_bit-cleared byte place small h =
    let least : bit_and byte (255 - 1 * 2 ^ place % 256) ≤ byte = and_le_l byte (255 - 1 * 2 ^ place % 256) in
    known_by_bits _ byte place false (omega arith)
    (λ k le. bit_cleared byte place k h le)
