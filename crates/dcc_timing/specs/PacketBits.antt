-- The bits of the packets in a list of half-bits (NMRA S-9.1, S-9.2).
use Rattle.std.specs.Prelude.{ℕ, ◌+◌, ◌-◌, ◌*◌, min, max, Bool, ◌&&◌, List, [], ◌∷◌, length, take, map}
use Rattle.std.specs.Prelude.{Option, None, Some}
use Rattle.std.specs.List.{filter, filter_map, flat_map}
use Rattle.dcc_wire.specs.declared.seen.Seen.{Seen}
use Rattle.dcc_wire.specs.declared.seen.Seen.TheVariants.{Nothing, Packet, Refused}
use Rattle.dcc_wire.specs.Framing.{seen}
use Rattle.dcc_timing.specs.declared.bits.Bits.{Bits}
use Rattle.dcc_timing.specs.Numbers.{keep_last}
use Rattle.dcc_timing.specs.Classes.{is_half_of_one, is_half_of_zero}
use Rattle.dcc_timing.specs.Tallies.{IsTally}

-- the end of an outcome that is a packet, and the bytes of this packet. The end is the number of
-- half-bits from the beginning of the list to the last half-bit of the packet. For any other
-- outcome, the result is `None`.
abbrev pub packet_at : ℕ × Seen → Option (ℕ × List ℕ)
packet_at (place, Packet bytes) = Some (place + 1, bytes)
packet_at (place, Refused fault) = None
packet_at (place, Nothing) = None

-- each packet in the list `halves`, with the number of half-bits from the beginning of `halves` to
-- the end of the packet
unfoldable pub packets_in : List ℕ → List (ℕ × List ℕ)
packets_in halves = filter_map packet_at (seen halves)

-- the number of half-bits of a packet with `bytes` bytes. The packet has ten ones before its start
-- bit, nine bits for each byte, and the end bit.
abbrev pub packet_length : ℕ → ℕ
packet_length bytes = 22 + 18 * bytes

-- the items of a list in pairs. If the number of items is odd, the last item is left out.
unfoldable pub pairs : List ℕ → List (ℕ × ℕ)
pairs (first ∷ second ∷ halves) = (first, second) ∷ pairs halves
pairs _ = []

-- the bits of `packet` in the list `halves`, each as a pair of half-bits
unfoldable pub packet_bits_of : List ℕ → ℕ × List ℕ → List (ℕ × ℕ)
packet_bits_of halves packet = pairs (keep_last (packet_length (length packet.1)) (take packet.0 halves))

-- the bits of all packets in the list `halves`, in order
unfoldable pub packet_bits_in : List ℕ → List (ℕ × ℕ)
packet_bits_in halves = flat_map (packet_bits_of halves) (packets_in halves)

-- true if both durations in `bit` are durations of half of a one
abbrev pub is_one_pair : ℕ × ℕ → Bool
is_one_pair bit = is_half_of_one bit.0 && is_half_of_one bit.1

abbrev pub is_zero_pair : ℕ × ℕ → Bool
is_zero_pair bit = is_half_of_zero bit.0 && is_half_of_zero bit.1

-- the difference between the two durations in `bit`
abbrev pub difference : ℕ × ℕ → ℕ
difference bit = max bit.0 bit.1 - min bit.0 bit.1

-- the sum of the two durations in `bit`
abbrev pub bit_duration : ℕ × ℕ → ℕ
bit_duration bit = bit.0 + bit.1

-- `tallies` are two tallies over `bits`. The first tally has, for each bit that is a one, the
-- difference between its two half-bits. The second tally has, for each bit that is a zero, its
-- duration.
pub record AreBits (tallies : Bits) (bits : List (ℕ × ℕ)) : Type 0 where
  pub differences : IsTally tallies.differences (map difference (filter is_one_pair bits))
  pub sums : IsTally tallies.sums (map bit_duration (filter is_zero_pair bits))
