-- The effect of one more half-bit on a framer.
use Rattle.std.specs.Prelude.{◌≡◌, ◌≢◌, ℕ, List, [], ◌∷◌, ◌++◌, length}
use Rattle.dcc_wire.specs.declared.seen.Seen.{Seen}
use Rattle.dcc_wire.specs.declared.seen.Seen.TheVariants.{Nothing}
use Rattle.dcc_wire.specs.Framing.{Rest, Hunting, StandsFor, seen, report_at}
use Rattle.dcc_wire.specs.Outcomes.{ones_left}

-- for all half-bits that `framer` represents, `next` represents these half-bits followed by a
-- half-bit of `us` microseconds
abbrev pub StandsForOneMore : Rest → ℕ → Rest → Type 0
StandsForOneMore framer us next = (halves : List ℕ) → StandsFor framer halves → StandsFor next (halves ++ us ∷ [])

-- for all half-bits that `framer` represents, `answer` is the outcome of a half-bit of `us`
-- microseconds after them
abbrev pub ShowsAtOneMore : Rest → ℕ → Seen → Type 0
ShowsAtOneMore framer us answer =
    (halves : List ℕ) → StandsFor framer halves
    → seen (halves ++ us ∷ []) ≡ seen halves ++ report_at (length halves) answer

-- a framer in state `old` that takes a half-bit of `us` microseconds returns `shown` and goes to
-- state `new`. After an outcome the framer searches for a preamble.
pub record PushesHalf (old : Rest) (us : ℕ) (shown : Seen) (new : Rest) : Type 0 where
  pub stands : StandsForOneMore old us new
  pub sees : ShowsAtOneMore old us shown
  pub hunts : shown ≢ Nothing → new ≡ Hunting (ones_left shown)
