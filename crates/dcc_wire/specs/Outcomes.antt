-- The outcome of a body (NMRA S-9.2; RCN-211), as a function that reads half-bits from left to
-- right. The module `OutcomeTable` gives the same outcomes as a table.
use Rattle.std.specs.Prelude.{ℕ, suc, zero, ◌+◌, ◌*◌, ◌==◌, nat_lt, Bool, true, false, List, [], ◌∷◌, length, take}
use Rattle.std.specs.Prelude.{drop, Option, Some, None, if◌then◌else◌}
use Rattle.std.specs.Option.{option_map, option_or}
use Rattle.dcc_wire.specs.declared.half.Half.{Half}
use Rattle.dcc_wire.specs.declared.half.Half.TheVariants.{One, Zero, Bad}
use Rattle.dcc_wire.specs.declared.seen.Fault.TheVariants.{BadHalf, SplitBit, TooShort, TooLong, ErrorByte}
use Rattle.dcc_wire.specs.declared.seen.Seen.{Seen}
use Rattle.dcc_wire.specs.declared.seen.Seen.TheVariants.{Nothing, Packet, Refused}
use Rattle.dcc_wire.specs.Frames.{xor_of}
use Rattle.dcc_wire.specs.Bodies.{number_of}

-- the bits at the beginning of a list of half-bits. Each bit is a pair of equal half-bits. The bits
-- end before the first pair of half-bits that differ or are bad.
unfoldable pub bits_in : List Half → List Bool
bits_in (One ∷ One ∷ halves) = true ∷ bits_in halves
bits_in (Zero ∷ Zero ∷ halves) = false ∷ bits_in halves
bits_in _ = []

-- the bytes at the beginning of a list of bits, and the bit after the last byte. There is a zero
-- before each byte. The bytes end if a one is in the place of this zero, or after `n` bytes. If the
-- list of bits ends earlier, the result is `None`.
unfoldable pub bytes_in : ℕ → List Bool → Option (List ℕ × Bool)
bytes_in n [] = None
bytes_in n (true ∷ bits) = Some ([], true)
bytes_in zero (false ∷ bits) = Some ([], false)
bytes_in (suc n) (false ∷ bits) =
    if nat_lt (length bits) 8
    then None
    else option_map (λ p. (number_of (take 8 bits) ∷ p.0, p.1)) (bytes_in n (drop 8 bits))

-- the outcome of a body that consists of `bytes` and an end bit
unfoldable pub body_outcome : List ℕ → Seen
body_outcome bytes =
    if nat_lt (length bytes) 3 then Refused TooShort
    else (if xor_of bytes == 0 then Packet bytes else Refused (ErrorByte bytes))

-- the outcome of a body, and its number of half-bits. The first `n` half-bits of the body form
-- bits. The given list has the next half-bits, of which the first two form no bit. If the body is
-- unfinished, the result is `None`.
unfoldable pub by_halves : ℕ → List Half → Option (ℕ × Seen)
by_halves n [] = None
by_halves n (Bad ∷ halves) = Some (n + 1, Refused BadHalf)
by_halves n (half ∷ []) = None
by_halves n (half ∷ Bad ∷ halves) = Some (n + 2, Refused BadHalf)
by_halves n (half ∷ other ∷ halves) = Some (n + 2, Refused SplitBit)

-- the outcome of the body at the beginning of `halves`, and its number of half-bits. If the body is
-- unfinished, the result is `None`. A body ends with the bit after its bytes, or with two half-bits
-- that form no bit.
unfoldable pub outcome_of : List Half → Option (ℕ × Seen)
outcome_of halves =
    let bits = bits_in halves in
    option_or
    (option_map (λ p. (18 * length p.0 + 2, if p.1 then body_outcome p.0 else Refused TooLong)) (bytes_in 6 bits))
    (by_halves (2 * length bits) (drop (2 * length bits) halves))

-- the number of half-bits of ones that count for the next preamble after an outcome. If an end bit
-- ends the body, the number is 2, otherwise 0.
unfoldable pub ones_left : Seen → ℕ
ones_left Nothing = 0
ones_left (Packet bytes) = 2
ones_left (Refused BadHalf) = 0
ones_left (Refused SplitBit) = 0
ones_left (Refused TooShort) = 2
ones_left (Refused TooLong) = 0
ones_left (Refused (ErrorByte bytes)) = 2
