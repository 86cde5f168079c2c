-- The body of a packet: its bytes as bits and as half-bits (NMRA S-9.2).
use Rattle.std.specs.Prelude.{ℕ, suc, zero, ◌+◌, ◌*◌, ◌==◌, Bool, true, false, List, [], ◌∷◌, ◌++◌, Option, Some}
use Rattle.std.specs.Prelude.{None, if◌then◌else◌}
use Rattle.std.specs.List.{fold}
use Rattle.std.specs.Int.{bit_at}
use Rattle.dcc_wire.specs.declared.half.Half.{Half}
use Rattle.dcc_wire.specs.declared.half.Half.TheVariants.{One, Zero}

-- the classes of the half-bits of `bits`: `One` twice for each one, `Zero` twice for each zero
unfoldable pub halves_of : List Bool → List Half
halves_of [] = []
halves_of (true ∷ bits) = One ∷ One ∷ halves_of bits
halves_of (false ∷ bits) = Zero ∷ Zero ∷ halves_of bits

-- a list with the class of the first half-bit of a bit, or an empty list if there is no bit
unfoldable pub first_half : Option Bool → List Half
first_half None = []
first_half (Some true) = One ∷ []
first_half (Some false) = Zero ∷ []

-- the lowest `n` bits of `number`, the highest of these bits first
unfoldable pub bits_of : ℕ → ℕ → List Bool
bits_of zero number = []
bits_of (suc n) number = (bit_at number n == 1) ∷ bits_of n number

-- the number whose bits are `bits`, the highest first
unfoldable pub number_of : List Bool → ℕ
number_of bits = fold (λ number bit. 2 * number + (if bit then 1 else 0)) 0 bits

-- the bits of the body of `bytes`: a zero and eight bits for each byte, then a one as the end bit
unfoldable pub body_bits : List ℕ → List Bool
body_bits [] = true ∷ []
body_bits (byte ∷ bytes) = false ∷ bits_of 8 byte ++ body_bits bytes

-- the classes of the half-bits of the body of `bytes`
unfoldable pub body : List ℕ → List Half
body bytes = halves_of (body_bits bytes)
