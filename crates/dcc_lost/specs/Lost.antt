-- Packets that a decoder does not hear, though the nearest classes of the half-bits form these
-- packets.
use Rattle.std.specs.Prelude.{ℕ, ◌+◌, ◌*◌, ◌==◌, nat_le, Bool, ◌&&◌, List, [], ◌∷◌, ◌++◌}
use Rattle.std.specs.Prelude.{length, drop, map, Option, None, Some, if◌then◌else◌}
use Rattle.std.specs.Option.{option_or}
use Rattle.dcc_wire.specs.declared.seen.Seen.{Seen}
use Rattle.dcc_wire.specs.declared.seen.Seen.TheVariants.{Nothing, Packet, Refused}
use Rattle.dcc_wire.specs.Framing.{ones_before, seen, is_hunting, rest}
use Rattle.dcc_wire.specs.Outcomes.{outcome_of}
use Rattle.dcc_timing.specs.Numbers.{keep_last}
use Rattle.dcc_lost.specs.Nearest.{nearest_class}

-- the frame of an outcome that is a packet of `n` bytes, or `None` for any other outcome
unfoldable pub packet_of_length : ℕ → Option (ℕ × Seen) → Option (List ℕ)
packet_of_length n None = None
packet_of_length n (Some (count, Packet bytes)) = if length bytes == n then Some bytes else None
packet_of_length n (Some (count, Refused fault)) = None
packet_of_length n (Some (count, Nothing)) = None

-- the frame of `n` bytes whose body follows the first 8 half-bits of `durations`. If one of these 8
-- half-bits does not have the nearest class One, the result is `None`.
unfoldable pub frame_after_ones : ℕ → List ℕ → Option (List ℕ)
frame_after_ones n durations =
    let halves = map nearest_class durations in
    if nat_le 8 (ones_before halves) then packet_of_length n (outcome_of (drop 8 halves)) else None

-- the frame of `n` bytes for which `durations` ends with at least 8 half-bits of ones and the body
-- of the frame. The body has `18 * n + 2` half-bits.
unfoldable pub frame_at_end : ℕ → List ℕ → Option (List ℕ)
frame_at_end n durations = frame_after_ones n (keep_last (18 * n + 10) durations)

-- the longest frame for which `durations` ends with at least 8 half-bits of ones and the body of
-- the frame
unfoldable pub longest_frame_at_end : List ℕ → Option (List ℕ)
longest_frame_at_end durations =
    option_or (frame_at_end 6 durations)
    (option_or (frame_at_end 5 durations) (option_or (frame_at_end 4 durations) (frame_at_end 3 durations)))

-- true if no outcome ends with the half-bit `us`, and no body is unfinished after this half-bit.
-- The half-bit `us` follows the half-bits `durations`.
unfoldable pub is_unheard : List ℕ → ℕ → Bool
is_unheard durations us =
    (length (seen (durations ++ us ∷ [])) == length (seen durations)) && is_hunting (rest (durations ++ us ∷ []))

-- the frame of the packet that is lost at the half-bit `us`. This half-bit follows the half-bits
-- `durations`.
unfoldable pub frame_lost : List ℕ → ℕ → Option (List ℕ)
frame_lost durations us =
    if is_unheard durations us then longest_frame_at_end (durations ++ us ∷ []) else None
