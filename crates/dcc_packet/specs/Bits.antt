-- Bits of bytes and of larger numbers.
use Rattle.std.specs.Prelude.{ℕ, Bool, ◌==◌, ◌+◌, if◌then◌else◌}
use Rattle.std.specs.Int.{bit_at}

-- true if bit `k` of the number `n` is one. Bit 0 is the lowest bit.
abbrev pub is_one : ℕ → ℕ → Bool
is_one n k = bit_at n k == 1

-- the byte whose bit k is one if and only if `bits` returns true for k
abbrev pub byte_of : (ℕ → Bool) → ℕ
byte_of bits =
    (if bits 0 then 1 else 0) + (if bits 1 then 2 else 0) + (if bits 2 then 4 else 0) + (if bits 3 then 8 else 0)
    + (if bits 4 then 16 else 0) + (if bits 5 then 32 else 0) + (if bits 6 then 64 else 0) + (if bits 7 then 128 else 0)

-- `byte` with the value `one` in the bit at `place`
unfoldable pub with_bit : ℕ → ℕ → Bool → ℕ
with_bit byte place one = byte_of (λ k. if k == place then one else is_one byte k)
