-- Properties of joined half-bits, and of the packets that are found in them.
use Rattle.std.specs.Prelude.{◌≡◌, ◌≢◌, ◌⊎◌, ◌≤◌, ◌<◌, ◌+◌, ◌*◌, ℕ, List, [], ◌∷◌, ◌++◌, length, map, Some, All}
use Rattle.std.specs.Prelude.{Contains}
use Rattle.dcc_wire.specs.declared.seen.Seen.TheVariants.{Packet}
use Rattle.dcc_wire.specs.Framing.{seen}
use Rattle.dcc_lost.specs.declared.joined.SpikedPacket.{SpikedPacket}
use Rattle.dcc_lost.specs.Joined.{halves_of_all, joined}
use Rattle.dcc_lost.specs.JoinedLost.{halves_before, packet_found}
use Rattle.dcc_lost.specs.LostLaws.{HasCause, IsLost}

-- joining neither removes half-bits nor changes their order
abbrev pub NoHalfIsRemoved : Type 0
NoHalfIsRemoved = (limit : ℕ) (durations : List ℕ) → halves_of_all (joined limit durations) ≡ durations

-- if no half-bit of a list is shorter than the limit, each half-bit is a joined half-bit of its own
abbrev pub OnlySpikesAreJoined : Type 0
OnlySpikesAreJoined =
    (limit us : ℕ) (durations : List ℕ) → All (λ half. limit ≤ half) (us ∷ durations)
    → joined limit (us ∷ durations) ≡ map (λ half. half ∷ []) (us ∷ durations)

-- each packet that is found in half-bits of at most 65535 microseconds has at least one cause
abbrev pub FoundPacketsHaveCauses : Type 0
FoundPacketsHaveCauses =
    (limit : ℕ) (durations : List ℕ) (packet : SpikedPacket) → All (λ half. half ≤ 65535) durations
    → packet_found limit durations ≡ Some packet
    → HasCause packet.lost ⊎ (packet.spikes ≢ 0)

-- A packet is found at the end of `durations`, and a packet with the frame `bytes` is seen in this
-- list or a longer one. The packet that is seen ends before the body of the found packet begins, or
-- its own body begins after `durations`.
abbrev pub FoundBodiesAreUnused : Type 0
FoundBodiesAreUnused =
    (limit : ℕ) (durations more : List ℕ) (packet : SpikedPacket) (place : ℕ) (bytes : List ℕ)
    → packet_found limit durations ≡ Some packet → Contains (seen (durations ++ more)) (place, Packet bytes)
    → (place < length (halves_before (18 * length packet.lost.frame + 2) (joined limit durations)))
    ⊎ (length durations + (18 * length bytes + 2) ≤ place + 1)

-- if no half-bit is shorter than the limit or longer than 65535 microseconds, a packet that is found
-- at the half-bit `us` is also lost there without joining
abbrev pub FoundWithoutSpikesIsLost : Type 0
FoundWithoutSpikesIsLost =
    (limit : ℕ) (durations : List ℕ) (us : ℕ) (packet : SpikedPacket)
    → All (λ half. (limit ≤ half) × (half ≤ 65535)) (durations ++ us ∷ [])
    → packet_found limit (durations ++ us ∷ []) ≡ Some packet → IsLost durations us packet.lost.frame
