-- The bits of a byte.
use Rattle.std.specs.Prelude.{ℕ, ◌+◌, ◌*◌, ◌/◌, ◌%◌, ◌==◌, Bool, List, [], ◌∷◌}
use Rattle.std.proofs.Common.{zero, suc}
use Rattle.dcc_packet.specs.Rows.{bit}

-- the lowest `n` bits of `number`, the lowest first
unfoldable pub bits_from_lowest : ℕ → ℕ → List Bool
bits_from_lowest zero number = []
bits_from_lowest (suc n) number = (number % 2 == 1) ∷ bits_from_lowest n (number / 2)

-- the number with the bits `bits`, the lowest first
unfoldable pub number_from_lowest : List Bool → ℕ
number_from_lowest [] = 0
number_from_lowest (one ∷ bits) = bit one + 2 * number_from_lowest bits
