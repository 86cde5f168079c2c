-- The times between the ends of the packets in a list of half-bits.
use Rattle.std.specs.Prelude.{ℕ, List, map, take, sum, Option}
use Rattle.dcc_timing.specs.Numbers.{most, steps}
use Rattle.dcc_timing.specs.PacketBits.{packets_in}

-- the times in microseconds from the beginning of `halves` to the end of each packet in `halves`
unfoldable pub ends_in : List ℕ → List ℕ
ends_in halves = map (λ packet. sum (take packet.0 halves)) (packets_in halves)

-- the longest time from the end of a packet to the end of the next packet, or `None` if `halves`
-- contains fewer than two packets
unfoldable pub longest_gap : List ℕ → Option ℕ
longest_gap halves = most (steps (ends_in halves))
