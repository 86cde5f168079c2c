-- Packets that a decoder does not hear, though the nearest classes of the joined half-bits form
-- these packets.
use Rattle.std.specs.Prelude.{ℕ, ◌+◌, ◌-◌, ◌*◌, ◌==◌, min, Bool, true, ◌&&◌, not, List, [], ◌∷◌, ◌++◌, sum}
use Rattle.std.specs.Prelude.{length, take, map, Option, None, Some, if◌then◌else◌}
use Rattle.std.specs.List.{count_by, filter}
use Rattle.std.specs.Option.{option_map, option_and_then}
use Rattle.dcc_wire.specs.Framing.{is_hunting, rest, seen}
use Rattle.dcc_timing.specs.Numbers.{keep_last}
use Rattle.dcc_timing.specs.Outcomes.{is_packet}
use Rattle.dcc_lost.specs.declared.causes.LostPacket.{LostPacket}
use Rattle.dcc_lost.specs.declared.joined.SpikedPacket.{SpikedPacket}
use Rattle.dcc_lost.specs.Causes.{is_off_one, is_off_zero, off_limits, ones_before_body, short_preamble}
use Rattle.dcc_lost.specs.Lost.{longest_frame_at_end}
use Rattle.dcc_lost.specs.Unused.{last_outcome, since_refusal, unused_at_end}
use Rattle.dcc_lost.specs.Joined.{closes, halves_of_all, joined, joined_us, joining_of}
use Rattle.dcc_lost.specs.Joined.{spikes_in}

-- the number of packets that are seen in `durations`
abbrev pub packets_heard : List ℕ → ℕ
packets_heard durations = count_by is_packet (seen durations)

-- 1 if a packet is seen that ends with one of the half-bits `group`, which follow the half-bits
-- `before`, otherwise 0
abbrev pub packets_within : List ℕ → List ℕ → ℕ
packets_within before group = min 1 (packets_heard (before ++ group) - packets_heard before)

-- for each of the joined half-bits `groups`, the number that `measure` gives for the half-bits
-- before it and for its own half-bits. The half-bits `before` come before `groups`.
unfoldable pub of_each : (List ℕ → List ℕ → ℕ) → List ℕ → List (List ℕ) → List ℕ
of_each measure before [] = []
of_each measure before (group ∷ groups) = measure before group ∷ of_each measure (before ++ group) groups

-- the number of the last `n` joined half-bits of `groups` with whose half-bits a packet ends that is
-- seen
abbrev pub packets_in_last : ℕ → List (List ℕ) → ℕ
packets_in_last n groups = sum (keep_last n (of_each packets_within [] groups))

-- true unless the refusal that is `since` half-bits before the end of a list ends this list
abbrev pub is_past : Option ℕ → Bool
is_past None = true
is_past (Some since) = not (since == 0)

-- true if no body is unfinished after the list `durations`, and no refusal ends with its last
-- half-bit
abbrev pub is_free_end : List ℕ → Bool
is_free_end durations =
    is_hunting (rest durations) && is_past (since_refusal (length durations) (last_outcome (seen durations)))

-- The frame `frame` of a body in the joined half-bits `groups`. If a packet that is seen ends with a
-- half-bit of this body, the result is `None`.
unfoldable pub unless_seen : List (List ℕ) → List ℕ → Option (List ℕ)
unless_seen groups frame = if packets_in_last (18 * length frame + 2) groups == 0 then Some frame else None

-- The frame of the packet that is found at the end of `durations`. In nearest classes, the joined
-- half-bits end with at least 8 half-bits of ones and the body of the frame, and with the body of no
-- longer frame. No refusal ends with the last half-bit of `durations`, no body is unfinished after
-- it, and no packet that is seen ends with a half-bit of the body.
unfoldable pub frame_found : ℕ → List ℕ → Option (List ℕ)
frame_found limit durations =
    if is_free_end durations
    then option_and_then (unless_seen (joined limit durations))
    (longest_frame_at_end (map joined_us (joined limit durations)))
    else None

-- a number of half-bits after a refusal, or `None` if it is 255, which stands for any greater number
abbrev pub exact : Option ℕ → Option ℕ
exact None = None
exact (Some since) = if since == 255 then None else Some since

-- The causes of a packet with the frame `frame`, whose body is the end of `durations`. No outcome
-- uses the last `unused` half-bits before the body, and `since` is the number of half-bits after the
-- last outcome, if this outcome is a refusal.
unfoldable pub causes_of : List ℕ → ℕ → Option ℕ → List ℕ → LostPacket
causes_of durations unused since frame =
    let body = 18 * length frame + 2 in
    let ones = ones_before_body body durations in
    let counted = keep_last (body + ones) durations in
    record {
      frame = frame;
      preamble = short_preamble ones unused since;
      ones = off_limits (filter is_off_one counted);
      zeros = off_limits (filter is_off_zero counted);
    }

-- the half-bits of `groups` without those of its last `n` joined half-bits
abbrev pub halves_before : ℕ → List (List ℕ) → List ℕ
halves_before n groups = halves_of_all (take (length groups - n) groups)

-- The packet with the frame `frame` and its causes, which is found at the end of `durations`. The
-- half-bits outside the limits are joined half-bits, and the unused half-bits and the refusal are
-- those of `durations`. `spikes` counts the spikes of the body and of the joined half-bits of ones
-- before it, at most 20.
unfoldable pub with_spikes : ℕ → List ℕ → List ℕ → SpikedPacket
with_spikes limit durations frame =
    let groups = joined limit durations in
    let body = 18 * length frame + 2 in
    let ones = ones_before_body body (map joined_us groups) in
    record {
      lost = causes_of (map joined_us groups) (unused_at_end (halves_before body groups))
          (exact (since_refusal (length durations) (last_outcome (seen durations)))) frame;
      spikes = sum (keep_last (body + ones) (map (spikes_in limit) groups));
    }

-- the packet that is found at the end of `durations`, or `None` if there is no such packet
unfoldable pub packet_found : ℕ → List ℕ → Option SpikedPacket
packet_found limit durations = option_map (with_spikes limit durations) (frame_found limit durations)

-- a list with the packet that is found at the end of `count` half-bits, and the place of the last of
-- these half-bits. If no packet is found there, the list is empty.
unfoldable pub report_found : ℕ → Option SpikedPacket → List (ℕ × SpikedPacket)
report_found count None = []
report_found count (Some packet) = (count - 1, packet) ∷ []

-- each packet that is found at the end of `before` or of a longer part of the list, whose last
-- half-bit is the last one of a joined half-bit. The half-bits `durations` come after `before`, and
-- the last joined half-bit is not regarded, since the next half-bit could be joined with it.
unfoldable pub packets_closed_after : ℕ → List ℕ → List ℕ → List (ℕ × SpikedPacket)
packets_closed_after limit before [] = []
packets_closed_after limit before (us ∷ durations) =
    (if closes limit (joining_of limit before) us then report_found (length before) (packet_found limit before) else [])
    ++ packets_closed_after limit (before ++ us ∷ []) durations

-- each packet that is found in the list `durations` at a joined half-bit before the last one
unfoldable pub packets_closed : ℕ → List ℕ → List (ℕ × SpikedPacket)
packets_closed limit durations = packets_closed_after limit [] durations

-- each packet that is found in the list `durations`, with the place of its last half-bit
unfoldable pub packets_found : ℕ → List ℕ → List (ℕ × SpikedPacket)
packets_found limit durations =
    packets_closed limit durations ++ report_found (length durations) (packet_found limit durations)
