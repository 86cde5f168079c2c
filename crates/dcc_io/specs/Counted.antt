-- Half-bits that are subtracted from the limit of an input.
use Rattle.std.specs.Prelude.{◌≡◌, ℕ, ◌-◌, ◌<◌, ◌≤◌, ◌∷◌, List, [], Option, None, Some, Result, Ok, Err}
use Rattle.dcc_io.specs.declared.fault.KeptFault.{KeptFault}
use Rattle.dcc_io.specs.declared.fault.KeptFault.TheVariants.{TooMuch}
use Rattle.dcc_io.specs.declared.word.Run.{Run}
use Rattle.dcc_io.specs.InputState.{InputState}
use Rattle.dcc_io.specs.Words.{duration_of, run_of}
use Rattle.dcc_io.specs.PassedWords.{Passed}

-- the half-bits of `run` were subtracted from the limit of half-bits. If `run` has more half-bits
-- than the limit allows, the result is the error U7.
abbrev pub CountsRun : InputState → Run → Result (Option Run) KeptFault → InputState → Type 0
CountsRun old run (Ok (Some taken)) new =
    (taken ≡ run) × (run.n ≤ old.halves) × (new ≡ record old { halves = old.halves - run.n })
CountsRun old run (Ok None) new = ⊥
CountsRun old run (Err fault) new =
    (fault ≡ TooMuch) × (old.halves < run.n) × (new ≡ record old { fault = Some TooMuch })

-- the next word is on the current line of `old` and is the duration `us`. The word was removed, and
-- one half-bit was subtracted from the limit. The line of the word is the last line that was used.
pub record TakesHalf (old : InputState) (us : ℕ) (new : InputState) : Type 0 where
  pub word : List ℕ
  pub spells : duration_of word ≡ Some us
  pub mid : InputState
  pub passed : Passed old (record { line = old.place.line; bytes = word } ∷ []) mid
  pub some : 0 < mid.halves
  pub counted : new ≡ record mid { halves = mid.halves - 1 }
  pub lines : new.lines ≡ old.place.line
  pub fewer : new.bytes < old.bytes

-- the next word is on the current line of `old` and is `run`. The word was removed, and the
-- half-bits of `run` were subtracted from the limit.
pub record TakesRun (old : InputState) (run : Run) (new : InputState) : Type 0 where
  pub word : List ℕ
  pub spells : run_of word ≡ Some run
  pub mid : InputState
  pub passed : Passed old (record { line = old.place.line; bytes = word } ∷ []) mid
  pub enough : run.n ≤ mid.halves
  pub counted : new ≡ record mid { halves = mid.halves - run.n }
  pub fewer : new.bytes < old.bytes

-- the next words are the durations `halves`. The words were removed one after the other, each as
-- `TakesHalf` says.
abbrev pub TakesHalves : InputState → List ℕ → InputState → Type 0
TakesHalves old [] new = new ≡ old
TakesHalves old (us ∷ halves) new = (mid : InputState) × TakesHalf old us mid × TakesHalves mid halves new
