-- Packets that are sent after noise. Noise is any list of half-bits.
use Rattle.std.specs.Prelude.{◌≡◌, ◌≤◌, ◌⊎◌, ℕ, ◌+◌, ◌-◌, ◌*◌, nat_le, List, [], ◌∷◌, ◌++◌, length, replicate}
use Rattle.std.specs.Prelude.{Option, Some, None, if◌then◌else◌, Contains}
use Rattle.std.specs.Option.{option_map}
use Rattle.dcc_wire.specs.declared.half.Half.{Half}
use Rattle.dcc_wire.specs.declared.half.Half.TheVariants.{One}
use Rattle.dcc_wire.specs.declared.seen.Seen.{Seen}
use Rattle.dcc_wire.specs.declared.seen.Seen.TheVariants.{Packet}
use Rattle.dcc_wire.specs.Frames.{IsFrame}
use Rattle.dcc_wire.specs.Framing.{Rest, Hunting, InBody, rest, seen}
use Rattle.dcc_wire.specs.Outcomes.{outcome_of}
use Rattle.dcc_wire.specs.Sending.{Sent, sent_all, at_last_halves, AllFrames}

-- the outcome of an unfinished body of a framer, if only half-bits of ones follow. The result also
-- has the number of these half-bits that the body uses. If no body is unfinished, the result is
-- `None`.
unfoldable pub ended_by_ones : Rest → Option (ℕ × Seen)
ended_by_ones (Hunting ones) = None
ended_by_ones (InBody halves) =
    option_map (λ p. (p.0 - length halves, p.1)) (outcome_of (halves ++ replicate 18 One))

-- the outcome of the body that is unfinished after `noise`, if a preamble follows. The result also
-- has the number of half-bits of this preamble that the body uses. If no body is unfinished, the
-- result is `None`.
abbrev pub open_end : List ℕ → Option (ℕ × Seen)
open_end noise = ended_by_ones (rest noise)

-- a body is unfinished after `place` half-bits, and then half-bits of ones follow. The result is a
-- list with the outcome of this body, and the place of the last half-bit of this outcome. If no
-- body is unfinished, the list is empty.
unfoldable pub at_open_end : ℕ → Option (ℕ × Seen) → List (ℕ × Seen)
at_open_end place None = []
at_open_end place (Some p) = (place + p.0 - 1, p.1) ∷ []

-- a list with the packet `first` and the place of its last half-bit. If an unfinished body ends in
-- the last 18 half-bits of the preamble of `first`, the packet `first` is lost, and the list is
-- empty.
unfoldable pub at_first : ℕ → Option (ℕ × Seen) → Sent → List (ℕ × Seen)
at_first place None first = at_last_halves place (first ∷ [])
at_first place (Some p) first =
    if nat_le (p.0 + 18) (2 * first.timing.preamble) then at_last_halves place (first ∷ []) else []

-- after noise and a first packet, each later packet is seen. There are no other later outcomes.
abbrev pub NoiseCostsNoLaterPacket : Type 0
NoiseCostsNoLaterPacket =
    (noise : List ℕ) (first : Sent) (others : List Sent) → AllFrames (first ∷ others)
    → seen (noise ++ sent_all (first ∷ others))
    ≡ seen (noise ++ sent_all (first ∷ [])) ++ at_last_halves (length (noise ++ sent_all (first ∷ []))) others

-- after noise and a first packet, the outcomes are those of the noise and at most two more. A body
-- that is unfinished after the noise has an outcome, and the first packet is seen unless it is
-- lost.
abbrev pub NoiseCostsAtMostTheFirst : Type 0
NoiseCostsAtMostTheFirst =
    (noise : List ℕ) (first : Sent) → IsFrame first.bytes
    → seen (noise ++ sent_all (first ∷ []))
    ≡ seen noise ++ at_open_end (length noise) (open_end noise) ++ at_first (length noise) (open_end noise) first

-- a body that is unfinished after noise ends within the first 18 half-bits of the next preamble
abbrev pub OpenBodiesEndSoon : Type 0
OpenBodiesEndSoon =
    (noise : List ℕ) (halves : List Half) → rest noise ≡ InBody halves
    → (n : ℕ) × (outcome : Seen) × (open_end noise ≡ Some (n, outcome)) × (1 ≤ n) × (n ≤ 18)

-- let no body be unfinished after noise. Then each packet after the noise is seen, and there are no
-- other outcomes after the noise.
abbrev pub NoiseBetweenBodiesCostsNothing : Type 0
NoiseBetweenBodiesCostsNothing =
    (noise : List ℕ) (ones : ℕ) (packets : List Sent) → rest noise ≡ Hunting ones → AllFrames packets
    → seen (noise ++ sent_all packets) ≡ seen noise ++ at_last_halves (length noise) packets

-- let packets be sent after noise. If the preamble of the first packet has at least 18 ones, each
-- of these packets is seen.
abbrev pub LongPreamblesLoseNothing : Type 0
LongPreamblesLoseNothing =
    (noise : List ℕ) (first : Sent) (others : List Sent) → AllFrames (first ∷ others)
    → 18 ≤ first.timing.preamble
    → seen (noise ++ sent_all (first ∷ others))
    ≡ seen noise ++ at_open_end (length noise) (open_end noise) ++ at_last_halves (length noise) (first ∷ others)

-- Three copies of a packet are sent after the packets `earlier`, and noise replaces one copy.
-- `before` copies come before the noise, and `after` copies come after the noise. If a copy comes
-- before the noise, the first copy is seen at its last half-bit. Otherwise the last copy is seen at
-- its last half-bit.
abbrev pub OneOfThreeCopiesIsSeen : Type 0
OneOfThreeCopiesIsSeen =
    (earlier : List Sent) (copy : Sent) (before after : ℕ) (noise : List ℕ)
    → AllFrames earlier → IsFrame copy.bytes → before + after ≡ 2
    → let track = sent_all (earlier ++ replicate before copy) ++ noise ++ sent_all (replicate after copy) in
    ((1 ≤ before) × Contains (seen track) (length (sent_all (earlier ++ copy ∷ [])) - 1, Packet copy.bytes))
    ⊎ ((before ≡ 0) × Contains (seen track) (length track - 1, Packet copy.bytes))

-- the track begins with any half-bits `start` and a whole packet `first`, for example because a
-- locomotive has just gained contact. Then the packets `earlier` and three copies of a packet are sent,
-- one of which noise replaces. Another copy is seen, as in `OneOfThreeCopiesIsSeen`.
abbrev pub OneOfThreeCopiesIsSeenAfterNoise : Type 0
OneOfThreeCopiesIsSeenAfterNoise =
    (start : List ℕ) (first : Sent) (earlier : List Sent) (copy : Sent) (before after : ℕ) (noise : List ℕ)
    → AllFrames (first ∷ earlier) → IsFrame copy.bytes → before + after ≡ 2
    → let sent = start ++ sent_all (first ∷ earlier ++ replicate before copy) in
    let track = sent ++ noise ++ sent_all (replicate after copy) in
    ((1 ≤ before)
    × Contains (seen track) (length (start ++ sent_all (first ∷ earlier ++ copy ∷ [])) - 1, Packet copy.bytes))
    ⊎ ((before ≡ 0) × Contains (seen track) (length track - 1, Packet copy.bytes))
