-- The causes of lost packets.
use Rattle.std.specs.Prelude.{ℕ, ◌+◌, ◌-◌, ◌*◌, min, max, nat_le, nat_lt, Bool, ◌&&◌, ◌||◌, List, [], ◌∷◌, ◌++◌}
use Rattle.std.specs.Prelude.{length, take, map, fold, Option, None, Some, if◌then◌else◌}
use Rattle.std.specs.List.{filter}
use Rattle.std.specs.Option.{option_map}
use Rattle.dcc_wire.specs.Framing.{ones_at_end, seen}
use Rattle.dcc_timing.specs.Numbers.{keep_last}
use Rattle.dcc_lost.specs.declared.causes.OffLimits.{OffLimits}
use Rattle.dcc_lost.specs.declared.causes.ShortPreamble.{ShortPreamble}
use Rattle.dcc_lost.specs.declared.causes.LostPacket.{LostPacket}
use Rattle.dcc_lost.specs.Nearest.{nearest_class}
use Rattle.dcc_lost.specs.Lost.{frame_lost, longest_frame_at_end}
use Rattle.dcc_lost.specs.Unused.{unused_at_end, since_refusal, last_outcome}

-- true if a half-bit of `us` microseconds has the nearest class One, and its duration is outside
-- the limits 52 to 64 of a decoder
abbrev pub is_off_one : ℕ → Bool
is_off_one us = (nat_le 26 us && nat_lt us 52) || (nat_lt 64 us && nat_le us 76)

-- true if a half-bit of `us` microseconds has the nearest class Zero, and its duration is outside
-- the limits 90 to 10000 of a decoder
abbrev pub is_off_zero : ℕ → Bool
is_off_zero us = (nat_le 77 us && nat_lt us 90) || (nat_lt 10000 us && nat_le us 20000)

-- the count of a list of durations, its least duration and its greatest duration. The result is
-- `None` if the list is empty.
unfoldable pub off_limits : List ℕ → Option OffLimits
off_limits [] = None
off_limits (us ∷ durations) =
    Some (record { count = length (us ∷ durations); least = fold min us durations; most = fold max us durations })

-- the number of half-bits of ones directly before the last `body` half-bits of `durations`, at most
-- 20. A half-bit counts as half of a one if its nearest class is One.
unfoldable pub ones_before_body : ℕ → List ℕ → ℕ
ones_before_body body durations =
    ones_at_end (map nearest_class (keep_last 20 (take (length durations - body) durations)))

-- The cause of a preamble that is too short. A body comes after `ones` half-bits of ones, and no
-- outcome uses the last `unused` half-bits before the body. The preamble is too short if `min ones
-- unused` is below 20. If the last outcome is a refusal, `since` is the number of half-bits after
-- it. The cause contains `since` if an outcome uses one of the `ones` half-bits.
unfoldable pub short_preamble : ℕ → ℕ → Option ℕ → Option ShortPreamble
short_preamble ones unused since =
    if nat_lt (min ones unused) 20
    then Some (record { ones = min ones unused; since_refusal = if nat_lt unused ones then since else None })
    else None

-- The lost packet with the frame `frame` and the causes of its loss. The list `durations` ends with
-- the body of this packet. The half-bits of the body, and at most 20 half-bits of ones directly
-- before the body, are compared with the limits of a decoder.
unfoldable pub with_causes : List ℕ → List ℕ → LostPacket
with_causes durations frame =
    let body = 18 * length frame + 2 in
    let ones = ones_before_body body durations in
    let counted = keep_last (body + ones) durations in
    record {
      frame = frame;
      preamble =
          short_preamble ones (unused_at_end (take (length durations - body) durations))
          (since_refusal (length durations) (last_outcome (seen durations)));
      ones = off_limits (filter is_off_one counted);
      zeros = off_limits (filter is_off_zero counted);
    }

-- the longest packet for which `durations` ends with at least 8 half-bits of ones and the body of
-- the packet. The result has the causes of the loss, and is `None` if there is no such packet.
abbrev pub packet_at_end : List ℕ → Option LostPacket
packet_at_end durations = option_map (with_causes durations) (longest_frame_at_end durations)

-- the packet that is lost at the half-bit `us`, which follows the half-bits `durations`. The result
-- is `None` if no packet is lost there.
unfoldable pub packet_lost : List ℕ → ℕ → Option LostPacket
packet_lost durations us = option_map (with_causes (durations ++ us ∷ [])) (frame_lost durations us)

-- a list with `place` and the packet that is lost at this place. If no packet is lost there, the
-- list is empty.
unfoldable pub report_lost : ℕ → Option LostPacket → List (ℕ × LostPacket)
report_lost place None = []
report_lost place (Some packet) = (place, packet) ∷ []

-- each packet that is lost at one of the half-bits `durations`, with the place of its last
-- half-bit. The half-bits `before` come before `durations`.
unfoldable pub packets_lost_after : List ℕ → List ℕ → List (ℕ × LostPacket)
packets_lost_after before [] = []
packets_lost_after before (us ∷ durations) =
    report_lost (length before) (packet_lost before us) ++ packets_lost_after (before ++ us ∷ []) durations

-- each packet that is lost in the list `durations`, with the place of its last half-bit
unfoldable pub packets_lost : List ℕ → List (ℕ × LostPacket)
packets_lost durations = packets_lost_after [] durations
