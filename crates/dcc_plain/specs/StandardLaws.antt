-- Theorems about standard packets.
use Rattle.std.specs.Prelude.{◌≡◌, Some}
use Rattle.dcc_plain.specs.declared.standard.StandardPacket.{StandardPacket}
use Rattle.dcc_plain.specs.Standard.{IsStandardPacketOf, StandardFits, standard_bytes}

-- no two standard packets have the same bytes
abbrev pub OneStandardPacket : Type 0
OneStandardPacket = (one other : StandardPacket) → StandardFits one → StandardFits other
    → standard_bytes one ≡ standard_bytes other → one ≡ other

-- a standard packet is the packet of its bytes
abbrev pub StandardPacketsAreReadBack : Type 0
StandardPacketsAreReadBack =
    (packet : StandardPacket) → StandardFits packet → IsStandardPacketOf (standard_bytes packet) (Some packet)
