-- The effect of a list of half-bits on the state of a framer.
use Rattle.std.specs.Prelude.{◌≡◌, ◌≢◌, ◌≤◌, ◌+◌, ◌-◌, ℕ, List, ◌++◌, length, take}
use Rattle.dcc_wire.specs.declared.many.ManySeen.{ManySeen}
use Rattle.dcc_wire.specs.declared.seen.Seen.TheVariants.{Nothing}
use Rattle.dcc_wire.specs.Framing.{Rest, Hunting, StandsFor, seen, report_at}
use Rattle.dcc_wire.specs.Outcomes.{ones_left}

-- a framer in state `old` takes the half-bits `halves`, which have no outcome, and goes to state
-- `new`
pub record PassesList (old : Rest) (halves : List ℕ) (new : Rest) : Type 0 where
  pub stands : (durations : List ℕ) → StandsFor old durations → StandsFor new (durations ++ halves)
  pub quiet : (durations : List ℕ) → StandsFor old durations → seen (durations ++ halves) ≡ seen durations

-- a framer in state `old` takes `shown.at` half-bits of `halves`, at least one, and goes to state
-- `new`. The last of them has the outcome `shown.seen`, and the others have none.
pub record PushesSome (old : Rest) (halves : List ℕ) (shown : ManySeen) (new : Rest) : Type 0 where
  pub stands : (durations : List ℕ) → StandsFor old durations → StandsFor new (durations ++ take shown.at halves)
  pub sees : (durations : List ℕ) → StandsFor old durations
      → seen (durations ++ take shown.at halves)
      ≡ seen durations ++ report_at (length durations + shown.at - 1) shown.seen
  pub before : (durations : List ℕ) → StandsFor old durations
      → seen (durations ++ take (shown.at - 1) halves) ≡ seen durations
  pub some : (1 ≤ shown.at) × (shown.at ≤ length halves)
  pub hunts : shown.seen ≢ Nothing → new ≡ Hunting (ones_left shown.seen)
