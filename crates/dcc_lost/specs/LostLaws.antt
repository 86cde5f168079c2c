-- Lost packets as a relation between half-bits and frames.
use Rattle.std.specs.Prelude.{◌+◌, ◌-◌, ◌*◌, ◌<◌, take, true, false}
use Rattle.std.specs.Prelude.{◌≡◌, ◌≢◌, ◌≤◌, ◌↔◌, ◌⊎◌, ℕ, List, [], ◌∷◌, ◌++◌, length, map, replicate, Some, None}
use Rattle.dcc_wire.specs.declared.half.Half.{Half}
use Rattle.dcc_wire.specs.declared.half.Half.TheVariants.{One}
use Rattle.dcc_wire.specs.declared.seen.Seen.{Seen}
use Rattle.dcc_wire.specs.Bodies.{body}
use Rattle.dcc_wire.specs.Frames.{IsFrame}
use Rattle.dcc_wire.specs.Framing.{InBody, seen, rest}
use Rattle.dcc_lost.specs.declared.causes.LostPacket.{LostPacket}
use Rattle.dcc_lost.specs.Nearest.{nearest_class}
use Rattle.dcc_wire.specs.Framing.{is_hunting}
use Rattle.dcc_lost.specs.Unused.{unused_at_end}
use Rattle.dcc_lost.specs.Causes.{packet_lost, with_causes}

-- if each half-bit has its nearest class, the list `durations` ends with at least 8 half-bits of
-- ones and the body of `frame`
pub record EndsWithFrame (durations frame : List ℕ) : Type 0 where
  pub frame_rule : IsFrame frame
  pub before : List Half
  pub halves : map nearest_class durations ≡ before ++ (replicate 8 One ++ body frame)

-- The frame `frame` is lost at the half-bit `us`, which follows the half-bits `durations`. The
-- half-bits up to `us` end with this frame, and with no longer frame. No outcome ends with the
-- half-bit `us`, and no body is unfinished after it.
pub record IsLost (durations : List ℕ) (us : ℕ) (frame : List ℕ) : Type 0 where
  pub ends : EndsWithFrame (durations ++ us ∷ []) frame
  pub longest : (other : List ℕ) → EndsWithFrame (durations ++ us ∷ []) other → length other ≤ length frame
  pub unseen : seen (durations ++ us ∷ []) ≡ seen durations
  pub between_bodies : (halves : List Half) → rest (durations ++ us ∷ []) ≢ InBody halves

-- a frame is lost if and only if `packet_lost` is this frame with its causes
abbrev pub LostPacketsAreLost : Type 0
LostPacketsAreLost =
    (durations : List ℕ) (us : ℕ) (frame : List ℕ)
    → (packet_lost durations us ≡ Some (with_causes (durations ++ us ∷ []) frame)) ↔ IsLost durations us frame

-- a packet that is lost has no outcome, so no packet is both seen and lost
abbrev pub NoLostPacketIsSeen : Type 0
NoLostPacketIsSeen =
    (durations : List ℕ) (us : ℕ) → packet_lost durations us ≢ None → seen (durations ++ us ∷ []) ≡ seen durations

-- the lost packet `packet` has at least one cause
abbrev pub HasCause : LostPacket → Type 0
HasCause packet = (packet.preamble ≢ None) ⊎ (packet.ones ≢ None) ⊎ (packet.zeros ≢ None)

-- each packet that is lost has a cause
abbrev pub LostPacketsHaveCauses : Type 0
LostPacketsHaveCauses =
    (durations : List ℕ) (us : ℕ) (packet : LostPacket) → packet_lost durations us ≡ Some packet → HasCause packet

-- Let an outcome use one of the last 20 half-bits before the body of a lost packet, and let
-- `before` be all half-bits before this body. If no body is unfinished after `before`, no outcome
-- ends within the body of the lost packet. If a body is unfinished after `before`, exactly one
-- outcome ends within the body of the lost packet. So the outcome that uses the preamble is the
-- last outcome.
abbrev pub OneOutcomeUsesThePreamble : Type 0
OneOutcomeUsesThePreamble =
    (durations : List ℕ) (us : ℕ) (frame before : List ℕ) → IsLost durations us frame
    → before ≡ take (length (durations ++ us ∷ []) - (18 * length frame + 2)) (durations ++ us ∷ [])
    → unused_at_end before < 20
    → (is_hunting (rest before) ≡ true → seen (durations ++ us ∷ []) ≡ seen before)
    × (is_hunting (rest before) ≡ false
    → (outcome : ℕ × Seen) × (seen (durations ++ us ∷ []) ≡ seen before ++ outcome ∷ []))
