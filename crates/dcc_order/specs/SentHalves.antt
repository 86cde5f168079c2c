-- The half-bits of a frame that a framer takes, one half-bit after the other.
use Rattle.std.specs.Prelude.{ℕ, ◌≡◌, List, [], ◌∷◌, ◌++◌}
use Rattle.dcc_wire.specs.declared.seen.Seen.{Seen}
use Rattle.dcc_wire.specs.declared.seen.Seen.TheVariants.{Nothing, Packet as PacketSeen}
use Rattle.dcc_wire.specs.Framing.{Rest, StandsFor, seen}
use Rattle.dcc_wire.specs.Frames.{IsFrame}
use Rattle.dcc_wire.specs.Sending.{Sent, sent, sent_all, AllFrames}
use Rattle.dcc_order.specs.OneMoreHalf.{StandsForOneMore, ShowsAtOneMore}

-- `framer` has taken exactly the half-bits of `frames`, which were sent one after the other. Each
-- element of `frames` is a frame.
unfoldable pub HasHeardAll : List Sent → Rest → Type 0
HasHeardAll frames framer = AllFrames frames × StandsFor framer (sent_all frames)

-- the last outcome of a list. If the list is empty, the result is the earlier outcome `before`.
abbrev pub last_seen : Seen → List (ℕ × Seen) → Seen
last_seen before [] = before
last_seen before (at ∷ later) = last_seen at.1 later

-- after the half-bits `track`, `framer` has taken the half-bits of `halves`, except the last
-- half-bits `left`. `kept` is the last outcome of the taken half-bits of `halves`. If these
-- half-bits have no outcome, `kept` is `Nothing`.
pub record HasComeBehind (track halves left : List ℕ) (framer : Rest) (kept : Seen) : Type 0 where
  pub come : List ℕ
  pub parts : come ++ left ≡ halves
  pub stands : StandsFor framer (track ++ come)
  pub more : List (ℕ × Seen)
  pub sees : seen (track ++ come) ≡ seen track ++ more
  pub last : kept ≡ last_seen Nothing more

-- the frame of `one` is being sent to a framer that was in state `start` before. The framer is now
-- in state `framer`, and the half-bits `left` are still to be sent. The last outcome so far is
-- `kept`.
unfoldable pub IsBeingSent : Rest → Sent → List ℕ → Rest → Seen → Type 0
IsBeingSent start one left framer kept =
    (track : List ℕ) → StandsFor start track → HasComeBehind track (sent one.bytes one.timing) left framer kept

-- before the first half-bit of a frame, all its half-bits are still to be sent, and there is no
-- outcome
abbrev pub SendingBegins : Type 0
SendingBegins = (start : Rest) (one : Sent) (left : List ℕ) → left ≡ sent one.bytes one.timing
    → IsBeingSent start one left start Nothing

-- after a half-bit without an outcome, the last outcome is unchanged
abbrev pub NothingIsSeen : Type 0
NothingIsSeen =
    (start framer next : Rest) (one : Sent) (left later : List ℕ) (us : ℕ) (answer kept : Seen)
    → IsBeingSent start one left framer kept → left ≡ us ∷ later → answer ≡ Nothing → StandsForOneMore framer us next
    → ShowsAtOneMore framer us answer → IsBeingSent start one later next kept

-- after a half-bit with an outcome, this outcome is the last outcome
abbrev pub SomethingIsSeen : Type 0
SomethingIsSeen =
    (start framer next : Rest) (one : Sent) (left later : List ℕ) (us : ℕ) (answer kept : Seen)
    → IsBeingSent start one left framer kept → left ≡ us ∷ later → StandsForOneMore framer us next
    → ShowsAtOneMore framer us answer → (answer ≡ Nothing → ⊥) → IsBeingSent start one later next answer

-- let a framer have taken only whole frames before a frame. After the last half-bit of this frame,
-- the frame is the last outcome.
abbrev pub FrameIsSeen : Type 0
FrameIsSeen =
    (start framer : Rest) (one : Sent) (left : List ℕ) (kept : Seen) (before : List Sent)
    → IsBeingSent start one left framer kept → left ≡ [] → IsFrame one.bytes → HasHeardAll before start
    → kept ≡ PacketSeen one.bytes

-- after the last half-bit of a frame, the framer has taken all frames before this frame, and then
-- this frame
abbrev pub FramesAreHeard : Type 0
FramesAreHeard =
    (start framer : Rest) (one : Sent) (left : List ℕ) (kept : Seen) (before : List Sent)
    → IsBeingSent start one left framer kept → left ≡ [] → IsFrame one.bytes → HasHeardAll before start
    → HasHeardAll (before ++ one ∷ []) framer
