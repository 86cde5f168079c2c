-- The table of outcomes (NMRA S-9.2; RCN-211): the outcomes of half-bits that begin with the first
-- half-bit of a start bit.
use Rattle.std.specs.Prelude.{◌≡◌, ◌≢◌, ◌≤◌, ◌<◌, ◌%◌, ◌⊎◌, ℕ, List, [], ◌∷◌, ◌++◌, length}
use Rattle.dcc_wire.specs.declared.half.Half.{Half}
use Rattle.dcc_wire.specs.declared.half.Half.TheVariants.{One, Zero, Bad}
use Rattle.dcc_wire.specs.declared.seen.Fault.TheVariants.{BadHalf, SplitBit, TooShort, TooLong, ErrorByte}
use Rattle.dcc_wire.specs.declared.seen.Seen.{Seen}
use Rattle.dcc_wire.specs.declared.seen.Seen.TheVariants.{Nothing, Packet, Refused}
use Rattle.dcc_wire.specs.Frames.{xor_of, AllBytes, IsFrame}
use Rattle.dcc_wire.specs.Bodies.{body}

-- `halves` begins with the list `front`
abbrev pub BeginsWith : List Half → List Half → Type 0
BeginsWith halves front = (more : List Half) × (halves ≡ front ++ more)

-- take the body of any six bytes. `halves` are the half-bits of its first bits: an even number of
-- half-bits, fewer than this body has (NMRA S-9.2).
pub record IsOpen (halves : List Half) : Type 0 where
  pub bytes : List ℕ
  pub each : AllBytes bytes
  pub six : length bytes ≡ 6
  pub begun : BeginsWith (body bytes) halves
  pub even : length halves % 2 ≡ 0
  pub shorter : length halves < length (body bytes)

-- a list has no half-bit, or it has one half-bit that is not bad
abbrev pub IsUnpaired : List Half → Type 0
IsUnpaired [] = Unit {0}
IsUnpaired (half ∷ []) = half ≢ Bad
IsUnpaired _ = ⊥

-- `halves` are all half-bits of a body with a given outcome, by one of the rows below
abbrev pub IsRow : List Half → Seen → Type 0
-- a packet: `halves` are the body of 3 to 6 bytes, the last of which is the error byte (NMRA S-9.2;
-- RCN-211)
IsRow halves (Packet bytes) = IsFrame bytes × (halves ≡ body bytes)
-- H5: `halves` are the body of 3 to 6 bytes with a wrong error byte (NMRA S-9.2)
IsRow halves (Refused (ErrorByte bytes)) =
    AllBytes bytes × (3 ≤ length bytes) × (length bytes ≤ 6) × (xor_of bytes ≢ 0)
    × (halves ≡ body bytes)
-- H3: `halves` are the body of 1 or 2 bytes. This body is too short, since a packet has at least 3
-- bytes (RCN-211).
IsRow halves (Refused TooShort) =
    (bytes : List ℕ) × AllBytes bytes × (1 ≤ length bytes) × (length bytes ≤ 2)
    × (halves ≡ body bytes)
-- H4: `halves` are the body of 6 bytes with a zero in place of the end bit, since a packet has at
-- most 6 bytes (RCN-211)
IsRow halves (Refused TooLong) =
    (bytes : List ℕ) × (front : List Half) × AllBytes bytes × (length bytes ≡ 6)
    × (body bytes ≡ front ++ One ∷ One ∷ []) × (halves ≡ front ++ Zero ∷ Zero ∷ [])
-- H2: the last bit of `halves` consists of a half-bit of a zero and a half-bit of a one, in any
-- order (NMRA S-9.1)
IsRow halves (Refused SplitBit) =
    (front : List Half) × IsOpen front
    × ((halves ≡ front ++ Zero ∷ One ∷ []) ⊎ (halves ≡ front ++ One ∷ Zero ∷ []))
-- H1: `halves` end with a bad half-bit, which is the first or the second half-bit of a bit (NMRA
-- S-9.1)
IsRow halves (Refused BadHalf) =
    (front : List Half) × (half : List Half) × IsOpen front × IsUnpaired half
    × (halves ≡ front ++ half ++ Bad ∷ [])
IsRow halves Nothing = ⊥

-- the first `n` half-bits of `halves` fit a row of the table with `outcome`
abbrev pub Comes : List Half → ℕ → Seen → Type 0
Comes halves n outcome =
    (front : List Half) × IsRow front outcome × (n ≡ length front) × BeginsWith halves front

-- `halves` can still become a body: they are whole bits, and at most one more half-bit (NMRA S-9.2)
abbrev pub IsUnfinished : List Half → Type 0
IsUnfinished halves =
    (front : List Half) × (half : List Half) × IsOpen front × IsUnpaired half
    × (halves ≡ front ++ half)
