-- Bits of numbers that ascend.
use Rattle.std.proofs.Common.{zero, suc, ◌≡◌, ℕ, ◌+◌, ◌*◌, ◌^◌, ◌%◌, ◌≤◌, add-one, arith}
use Rattle.std.proofs.lemmas.Nat.{pow_pos}
use Rattle.std.proofs.Math.Nat.{mod-eq_of_lt, pow-succ'}
use Rattle.std.proofs.Math.Pow.{pow_mono}
use Rattle.dcc_saved.specs.declared.decoder_line.Numbered.{Numbered}
use Rattle.dcc_saved.specs.declared.decoder_line.Numbered.TheVariants as kinds
use Rattle.dcc_saved.specs.Numbered.{end_of}

twice : (n : ℕ) → 2 ^ (n + 1) ≡ 2 * 2 ^ n
twice n = rw add-one (pow-succ' 2 n)

-- a bit has room at a type that has it and those above it
bit_is : (top n others : ℕ) → others + 2 ^ (n + 1) ≤ top → (1 * 2 ^ n) % top ≡ 2 ^ n
bit_is top n others room =
    let whole : 1 * 2 ^ n ≡ 2 ^ n = omega arith in
    rw whole (mod-eq_of_lt (omega (arith, twice n, pow_pos n)))

pub bits_fit : (top limit n least others : ℕ) → limit ≤ top → least ≤ n → others + 2 ^ (n + 1) ≤ limit
    → (1 * 2 ^ n) % top + others + 2 ^ least ≤ limit
bits_fit top limit n least others within ordered room =
    rw (bit_is top n others (omega arith)) (omega (arith, twice n, pow_mono ordered))

-- bits above the lowest are even
pub bits_even : (top n others : ℕ) → 1 ≤ n → others + 2 ^ (n + 1) ≤ top → others % 2 ≡ 0
    → ((1 * 2 ^ n) % top + others) % 2 ≡ 0
bits_even top zero others some room even = absurd (omega arith)
bits_even top (suc n) others some room even = rw (bit_is top (suc n) others room) (omega (arith, pow-succ' 2 n))

pub one_bit_fits : (limit least : ℕ) → least ≤ limit → 0 + 2 ^ least ≤ 2 ^ limit
one_bit_fits limit least within = omega (arith, pow_mono within)

-- the bits of a kind fit in 128
pub bits_of_kind : (kind : Numbered) → 2 ^ end_of kind ≤ 2 ^ 128
bits_of_kind kinds.Function = omega arith
bits_of_kind kinds.State = omega arith
bits_of_kind kinds.Out = omega arith

pub fits_of_kind : (kind : Numbered) (bits : ℕ) → bits ≤ 2 ^ end_of kind → bits ≤ 2 ^ 128
fits_of_kind kind bits within = omega (arith, bits_of_kind kind)
