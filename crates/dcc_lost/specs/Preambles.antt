-- The preambles of the packets in a list of half-bits: of the packets that a decoder sees, and of the
-- packets that are lost.
use Rattle.std.specs.Prelude.{ℕ, ◌+◌, ◌-◌, ◌*◌, min, List, ◌++◌, length, map, take, Option}
use Rattle.dcc_wire.specs.Framing.{ones_at_end, starts, used_up}
use Rattle.dcc_wire.specs.Half.{class_of}
use Rattle.dcc_timing.specs.Numbers.{least}
use Rattle.dcc_timing.specs.PacketBits.{packets_in}
use Rattle.dcc_lost.specs.declared.causes.LostPacket.{LostPacket}
use Rattle.dcc_lost.specs.Nearest.{nearest_class}
use Rattle.dcc_lost.specs.Causes.{packets_lost}

-- the number of half-bits at the end of `durations` that no outcome uses. An unfinished body uses
-- all its half-bits.
unfoldable pub all_unused_at_end : List ℕ → ℕ
all_unused_at_end durations = let halves = map class_of durations in length durations - used_up halves (starts halves)

-- the number of half-bits of ones at the end of `durations`. A half-bit counts as half of a one if
-- its nearest class is One.
abbrev pub nearest_ones_at_end : List ℕ → ℕ
nearest_ones_at_end durations = ones_at_end (map nearest_class durations)

-- the number of half-bits of ones at the end of `durations` that no outcome uses, at most 65535. A
-- half-bit counts as half of a one if its nearest class is One.
unfoldable pub preamble_at_end : List ℕ → ℕ
preamble_at_end durations = min 65535 (min (nearest_ones_at_end durations) (all_unused_at_end durations))

-- the number of half-bits from the beginning of the list to the end of the lost packet `lost.1`, and
-- the bytes of this packet. Its last half-bit is at the place `lost.0`.
abbrev pub lost_packet_at : ℕ × LostPacket → ℕ × List ℕ
lost_packet_at lost = (lost.0 + 1, lost.1.frame)

-- each packet that is seen in the list `durations`, and then each packet that is lost there. Each
-- packet comes with the number of half-bits from the beginning of the list to its end.
unfoldable pub packets_seen_or_lost : List ℕ → List (ℕ × List ℕ)
packets_seen_or_lost durations = packets_in durations ++ map lost_packet_at (packets_lost durations)

-- The preamble of the packet with the bytes `packet.1`, which ends after the first `packet.0`
-- half-bits of `durations`. The preamble is the number of half-bits of ones directly before the body
-- of the packet that no outcome uses.
abbrev pub preamble_of : List ℕ → ℕ × List ℕ → ℕ
preamble_of durations packet = preamble_at_end (take (packet.0 - (18 * length packet.1 + 2)) durations)

-- the shortest preamble of the packets that are seen or lost in the list `durations`, or `None` if
-- there are no such packets
unfoldable pub shortest_preamble : List ℕ → Option ℕ
shortest_preamble durations = least (map (preamble_of durations) (packets_seen_or_lost durations))

-- the number of packets that are lost in the list `durations`
abbrev pub lost_count : List ℕ → ℕ
lost_count durations = length (packets_lost durations)
