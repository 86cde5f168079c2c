-- The effect of one more number, or of one more outcome, on the statistics.
use Rattle.std.specs.Prelude.{ℕ, min, max, List, [], ◌∷◌, length, Option, None, Some}
use Rattle.dcc_wire.specs.declared.seen.Seen.{Seen}
use Rattle.dcc_wire.specs.declared.seen.Seen.TheVariants.{Nothing, Packet, Refused}
use Rattle.dcc_timing.specs.Numbers.{keep_last}
use Rattle.dcc_timing.specs.PacketBits.{packet_length, pairs}

-- the lesser of two numbers. If the first argument is `None`, the result is `number`.
abbrev pub lesser : Option ℕ → ℕ → ℕ
lesser None number = number
lesser (Some other) number = min other number

abbrev pub greater : Option ℕ → ℕ → ℕ
greater None number = number
greater (Some other) number = max other number

-- the number of half-bits of the packet of an outcome. If the outcome is no packet, the result is
-- `None`.
abbrev pub bits_shown : Seen → Option ℕ
bits_shown (Packet bytes) = Some (packet_length (length bytes))
bits_shown (Refused fault) = None
bits_shown Nothing = None

-- the bits of a packet. The packet has `count` half-bits, which are the last half-bits of `halves`.
-- If there is no packet, the list is empty.
abbrev pub bits_among : Option ℕ → List ℕ → List (ℕ × ℕ)
bits_among None halves = []
bits_among (Some count) halves = pairs (keep_last count halves)

-- a list with the time `end` at which a packet ends. If there is no packet, the list is empty.
abbrev pub end_among : Option ℕ → ℕ → List ℕ
end_among None end = []
end_among (Some count) end = end ∷ []
