-- The error byte is the exclusive or of the bytes before it.
use Rattle.std.proofs.Common.{◌≡◌, ℕ, List, [], ◌∷◌, ◌++◌, sym, ◌∙◌, bit_xor}
use Rattle.std.proofs.lemmas.List.Sums.{fold-append}
use Rattle.dcc_wire.specs.Frames.{xor_of, with_error_byte}
use lib.Bits.{xor_self, xor_assoc, xor_zero_l, xor_zero_r}

pub xor_of-append : (bytes : List ℕ) (e : ℕ) → xor_of (bytes ++ e ∷ []) ≡ bit_xor (xor_of bytes) e
xor_of-append bytes e = fold-append bit_xor 0 bytes (e ∷ [])

-- with its error byte the exclusive or is 0
pub xor_of-with_error_byte : (bytes : List ℕ) → xor_of (with_error_byte bytes) ≡ 0
xor_of-with_error_byte bytes = xor_of-append bytes (xor_of bytes) ∙ xor_self (xor_of bytes)

equal_from_xor : (a e : ℕ) → bit_xor a e ≡ 0 → e ≡ a
equal_from_xor a e h =
    let back : bit_xor (bit_xor a a) e ≡ a = rw (xor_assoc, h) (xor_zero_r a) in rw (xor_self, xor_zero_l) at back

-- where the exclusive or is 0, the last byte is the error byte
pub last_is_error_byte : (bytes : List ℕ) (e : ℕ) → xor_of (bytes ++ e ∷ []) ≡ 0
    → bytes ++ e ∷ [] ≡ with_error_byte bytes
last_is_error_byte bytes e h = rw (equal_from_xor (xor_of bytes) e (sym (xor_of-append bytes e) ∙ h))
