-- Truth values that are packed into a number, one to a bit, from the lowest bit up.
use Rattle.std.proofs.Common.{◌≡◌, ◌≢◌, ℕ, zero, suc, ◌+◌, ◌-◌, ◌*◌, ◌/◌, ◌^◌, ◌%◌, ◌<◌, ◌≤◌, Bool, true, false, refl}
use Rattle.std.proofs.Common.{sym, ◌∙◌, ap, arith, below_more, bit_and, bit_or}
use Rattle.std.specs.Prelude.{if◌then◌else◌}
use Rattle.std.specs.Int.{bit_at}
use Rattle.std.proofs.lemmas.Grind.{common_steps}
use Rattle.std.proofs.lemmas.Nat.{or_lt, pow_below, pow_pos, and_le_r}
use Rattle.std.proofs.lemmas.Nat.Bits.{bit_at_or, bit_at_and, bit_at-zero, bit_at-lt, bit_at-suc, bit_at_above}
use Rattle.std.proofs.lemmas.Nat.Bits.{bit_at_ones}
use mir.Val.{bool_byte}
use Rattle.dcc_packet.specs.Bits.{is_one}
use Rattle.dcc_packet.proofs.BitLemmas.{same_bit, other_bit}

-- a one that is shifted to its place is not cut off
pub shifted_one_128 : (n : ℕ) → n ≤ 127 → 1 * 2 ^ n % 340282366920938463463374607431768211456 ≡ 2 ^ n
shifted_one_128 n h = grind (arith, common_steps)

-- a truth value that is shifted to place n, in numbers below a limit that are wide enough for it
shifted : (on : Bool) (n limit : ℕ) → 1 * 2 ^ n % limit ≡ 2 ^ n
    → bool_byte on * 2 ^ n % limit ≡ (if on then 2 ^ n else 0)
shifted true n limit fits = fits
shifted false n limit fits = grind (arith, common_steps)

nothing_put : (word k : ℕ) → is_one (bit_or word 0) k ≡ is_one word k
nothing_put word k =
    let z : bit_at 0 k ≡ 0 = bit_at-zero k in
    let b : bit_at (bit_or word 0) k ≡ bit_at word k = rw (bit_at_or word 0 k) (omega arith) in
    rw b refl

put_here : (word n mask : ℕ) (on : Bool) → mask ≡ (if on then 2 ^ n else 0) → is_one word n ≡ false
    → is_one (bit_or word mask) n ≡ on
put_here word n mask true e free = same_bit word mask n e
put_here word n mask false e free = rw e (nothing_put word n ∙ free)

put_elsewhere : (word n mask k : ℕ) (on : Bool) → mask ≡ (if on then 2 ^ n else 0) → k ≢ n
    → is_one (bit_or word mask) k ≡ is_one word k
put_elsewhere word n mask k true e ne = other_bit word mask k n e ne
put_elsewhere word n mask k false e ne = rw e (nothing_put word k)

-- the truth values below n are packed, and the one at n is put
pub packed_more : (word n limit : ℕ) (on : Bool) (f : ℕ → Bool) → 1 * 2 ^ n % limit ≡ 2 ^ n
    → ((k : ℕ) → k < n → is_one word k ≡ f k) → is_one word n ≡ false → on ≡ f n
    → (k : ℕ) → k < n + 1 → is_one (bit_or word (bool_byte on * 2 ^ n % limit)) k ≡ f k
packed_more word n limit on f fits before free here =
    below_more (λ k. is_one (bit_or word (bool_byte on * 2 ^ n % limit)) k ≡ f k) n
    (λ k lt. put_elsewhere word n _ k on (shifted on n limit fits) (omega arith) ∙ before k lt)
    (put_here word n _ on (shifted on n limit fits) free ∙ here)

-- a number below a power of two has no bit from there on
pub zero_from : (word n : ℕ) → word < 2 ^ n → is_one word n ≡ false
zero_from word n h = rw (bit_at_above word n n h (omega arith)) refl

put_at_most : (on : Bool) (n : ℕ) → (if on then 2 ^ n else 0) ≤ 2 ^ n
put_at_most true n = omega arith
put_at_most false n = omega arith

-- truth values below n make a number below the power of n, and so with the one at n
pub packed_below : (word n limit : ℕ) (on : Bool) → 1 * 2 ^ n % limit ≡ 2 ^ n → word < 2 ^ n
    → bit_or word (bool_byte on * 2 ^ n % limit) < 2 ^ (n + 1)
packed_below word n limit on fits h =
    let more : 2 ^ n < 2 ^ (n + 1) = pow_below n (n + 1) (omega arith) in
    let most : bool_byte on * 2 ^ n % limit ≤ 2 ^ n = rw (shifted on n limit fits) (put_at_most on n) in
    or_lt (n + 1) word _ (omega arith) (omega arith)

-- the lowest n bits alone
pub low_bits : (word mask n k : ℕ) → mask ≡ 2 ^ n - 1 → k < n → is_one (bit_and word mask) k ≡ is_one word k
low_bits word mask n k e h =
    let one : bit_at mask k ≡ 1 = rw e (bit_at_ones n k h) in
    let small : bit_at word k < 2 = bit_at-lt word k in
    let b : bit_at (bit_and word mask) k ≡ bit_at word k = rw (bit_at_and word mask k) (omega arith) in
    rw b refl

pub low_below : (word mask n : ℕ) → mask ≡ 2 ^ n - 1 → bit_and word mask < 2 ^ n
low_below word mask n e =
    let most : bit_and word mask ≤ mask = and_le_r word mask in
    let some : 0 < 2 ^ n = pow_pos n in
    omega arith

-- all bits but the lowest
pub high_bits : (word k : ℕ) → 1 ≤ k → is_one (word - word % 2) k ≡ is_one word k
high_bits word zero h = absurd (omega arith)
high_bits word (suc k) h =
    let half : (word - word % 2) / 2 ≡ word / 2 = omega arith in
    let b : bit_at (word - word % 2) (suc k) ≡ bit_at word (suc k) =
    bit_at-suc (word - word % 2) k ∙ ap (λ x. bit_at x k) half ∙ sym (bit_at-suc word k) in
    rw b refl
