-- Runs of equal half-bits.
use Rattle.std.specs.Prelude.{◌≡◌, ◌≢◌, ◌≤◌, ℕ, zero, suc, ◌+◌, ◌-◌, ◌<◌, min, List, ◌++◌, length, replicate}
use Rattle.dcc_wire.specs.declared.half.Half.{Half}
use Rattle.dcc_wire.specs.declared.half.Half.TheVariants.{One, Zero, Bad}
use Rattle.dcc_wire.specs.declared.run.RunSeen.{RunSeen}
use Rattle.dcc_wire.specs.declared.seen.Seen.TheVariants.{Nothing}
use Rattle.dcc_wire.specs.Framing.{Rest, Hunting, InBody, StandsFor, seen, report_at}
use Rattle.dcc_wire.specs.Half.{class_of}
use Rattle.dcc_wire.specs.Outcomes.{ones_left}

-- after `ones` half-bits of ones, no run of half-bits of the given class begins a body
abbrev pub IsQuiet : ℕ → Half → Type 0
IsQuiet ones One = Unit {0}
IsQuiet ones Zero = ones < 20
IsQuiet ones Bad = Unit {0}

abbrev pub IsQuietFor : Rest → Half → Type 0
IsQuietFor (Hunting ones) half = IsQuiet ones half
IsQuietFor (InBody halves) half = ⊥

-- the number of half-bits of ones at the end of a list, at most 20. The list ends with `ones`
-- half-bits of ones, and then a run of `n` half-bits of class `half`. The run begins no body.
unfoldable pub ones_after : ℕ → Half → ℕ → ℕ
ones_after ones half zero = ones
ones_after ones One (suc n) = min 20 (ones + suc n)
ones_after ones Zero (suc n) = 0
ones_after ones Bad (suc n) = 0

-- the number of half-bits of ones, at most 20, that stays the same after half-bits of class `half`
unfoldable pub still_ones : Half → ℕ
still_ones One = 20
still_ones Zero = 0
still_ones Bad = 0

-- the state of a framer between two bodies after a run of `n` half-bits of class `half`
unfoldable pub rest_after_run : Rest → Half → ℕ → Rest
rest_after_run (Hunting ones) half n = Hunting (ones_after ones half n)
rest_after_run (InBody halves) half n = InBody halves

-- a framer in state `old` takes `n` half-bits of `us` microseconds, goes to state `new` and returns
-- `shown`. `shown` has the first outcome in the run, and the number of its last half-bit. If the
-- run has no outcome, `shown` has `Nothing`.
pub record PushesRun (old : Rest) (us n : ℕ) (shown : RunSeen) (new : Rest) : Type 0 where
  pub stands : (durations : List ℕ) → StandsFor old durations → StandsFor new (durations ++ replicate n us)
  pub sees : (durations : List ℕ) → StandsFor old durations
      → seen (durations ++ replicate n us) ≡ seen durations ++ report_at (length durations + shown.at - 1) shown.seen
  pub before : (durations : List ℕ) → StandsFor old durations
      → seen (durations ++ replicate (shown.at - 1) us) ≡ seen durations
  pub nothing : shown.seen ≡ Nothing → shown.at ≡ n
  pub something : shown.seen ≢ Nothing → (1 ≤ shown.at) × (shown.at ≤ n)
  pub hunts : shown.seen ≢ Nothing
      → new ≡ rest_after_run (Hunting (ones_left shown.seen)) (class_of us) (n - shown.at)
