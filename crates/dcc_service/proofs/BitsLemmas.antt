-- The bits of a number, the lowest first.
use Rattle.std.proofs.Common.{◌≡◌, ℕ, List, zero, suc, ◌+◌, ◌*◌, ◌/◌, ◌%◌, ◌^◌, ◌<◌, ◌≤◌, Bool, true, false, [], ◌∷◌}
use Rattle.std.proofs.Common.{◌++◌}
use Rattle.std.proofs.Common.{length, refl, ap, ◌∙◌, arith}
use Rattle.std.specs.Prelude.{◌==◌}
use Rattle.std.proofs.Math.Nat.{pow-suc}
use Rattle.dcc_packet.specs.Rows.{bit}
use Rattle.dcc_service.specs.Bits.{bits_from_lowest, number_from_lowest}
use Rattle.dcc_packet.proofs.BitLemmas.{shifted_one, bit_of_digit}

pub length-bits_from_lowest : (n number : ℕ) → length (bits_from_lowest n number) ≡ n
unfolding bits_from_lowest
length-bits_from_lowest zero number = refl
length-bits_from_lowest (suc n) number = ap suc (length-bits_from_lowest n (number / 2))

pub number-bits_from_lowest : (n number : ℕ) → number < 2 ^ n → number_from_lowest (bits_from_lowest n number) ≡ number
unfolding bits_from_lowest number_from_lowest
number-bits_from_lowest zero number h = omega arith
number-bits_from_lowest (suc n) number h =
    let double : 2 ^ suc n ≡ 2 * 2 ^ n = omega (arith, pow-suc 2 n) in
    let half : number / 2 < 2 ^ n = omega arith in
    omega (arith, number-bits_from_lowest n (number / 2) half, bit_of_digit (number % 2) (omega arith))

doubled : (one : Bool) (n : ℕ) → bit one * 2 ^ suc n ≡ 2 * (bit one * 2 ^ n)
doubled true n = omega (arith, pow-suc 2 n)
doubled false n = omega arith

-- one bit more, above the others
pub bits_from_lowest-more : (n number : ℕ) (one : Bool) → number < 2 ^ n
    → bits_from_lowest (suc n) (number + bit one * 2 ^ n) ≡ bits_from_lowest n number ++ one ∷ []
unfolding bits_from_lowest
bits_from_lowest-more zero number true h =
    let e : number ≡ 0 = omega arith in rw e refl
bits_from_lowest-more zero number false h =
    let e : number ≡ 0 = omega arith in rw e refl
bits_from_lowest-more (suc n) number one h =
    let double : 2 ^ suc n ≡ 2 * 2 ^ n = omega (arith, pow-suc 2 n) in
    let half : number / 2 < 2 ^ n = omega arith in
    let weight = doubled one n in
    let low : (number + bit one * 2 ^ suc n) % 2 ≡ number % 2 = omega arith in
    let high : (number + bit one * 2 ^ suc n) / 2 ≡ number / 2 + bit one * 2 ^ n = omega arith in
    ap (λ (r : ℕ). (r == 1) ∷ bits_from_lowest (suc n) ((number + bit one * 2 ^ suc n) / 2)) low
    ∙ ap (λ (m : ℕ). (number % 2 == 1) ∷ bits_from_lowest (suc n) m) high
    ∙ ap (λ bits. (number % 2 == 1) ∷ bits) (bits_from_lowest-more n (number / 2) one half)

pub byte_weight : (one : Bool) (k : ℕ) → k ≤ 7 → bit one * 2 ^ k % 256 ≡ bit one * 2 ^ k
byte_weight true k h = omega (arith, shifted_one k h)
byte_weight false k h = omega arith

-- the bits of the number that has them
pub bits_from_lowest-number : (bits : List Bool) → bits_from_lowest (length bits) (number_from_lowest bits) ≡ bits
unfolding bits_from_lowest number_from_lowest
bits_from_lowest-number [] = refl
bits_from_lowest-number (true ∷ bits) =
    let low : (1 + 2 * number_from_lowest bits) % 2 ≡ 1 = omega arith in
    let high : (1 + 2 * number_from_lowest bits) / 2 ≡ number_from_lowest bits = omega arith in
    rw (low, high, bits_from_lowest-number bits) refl
bits_from_lowest-number (false ∷ bits) =
    let low : (0 + 2 * number_from_lowest bits) % 2 ≡ 0 = omega arith in
    let high : (0 + 2 * number_from_lowest bits) / 2 ≡ number_from_lowest bits = omega arith in
    rw (low, high, bits_from_lowest-number bits) refl

pub number_from_lowest-small : (bits : List Bool) → number_from_lowest bits < 2 ^ length bits
unfolding number_from_lowest
number_from_lowest-small [] = omega arith
number_from_lowest-small (true ∷ bits) =
    omega (arith, number_from_lowest-small bits, pow-suc 2 (length bits))
number_from_lowest-small (false ∷ bits) =
    omega (arith, number_from_lowest-small bits, pow-suc 2 (length bits))
