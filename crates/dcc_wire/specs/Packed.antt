-- Bits that are stored as whole bytes and a number. The number has the bits after the bytes.
use Rattle.std.specs.Prelude.{◌≡◌, ℕ, ◌*◌, ◌^◌, ◌≤◌, ◌<◌, Bool, false, List, [], ◌∷◌, ◌++◌, length}
use Rattle.dcc_wire.specs.Frames.{xor_of, AllBytes}
use Rattle.dcc_wire.specs.Bodies.{bits_of}

-- the bits of `bytes`, with a zero before each byte
unfoldable pub byte_bits : List ℕ → List Bool
byte_bits [] = []
byte_bits (byte ∷ bytes) = false ∷ bits_of 8 byte ++ byte_bits bytes

-- the bits of `bytes`, with a zero before each byte, and then the lowest `count` bits of the number
-- `shift`
unfoldable pub packed_bits : List ℕ → ℕ → ℕ → List Bool
packed_bits bytes count shift = byte_bits bytes ++ bits_of count shift

-- `bytes`, `count` and `shift` store the bits of an unfinished body, which has at most six bytes.
-- `xor` is the exclusive or of `bytes`.
pub record IsPacked (bytes : List ℕ) (xor count shift : ℕ) : Type 0 where
  pub few : length bytes ≤ 6
  pub each : AllBytes bytes
  pub exclusive_or : xor ≡ xor_of bytes
  pub part : count ≤ 8
  pub zero_first : 2 * shift < 2 ^ count
  pub room : 0 < count → length bytes < 6
