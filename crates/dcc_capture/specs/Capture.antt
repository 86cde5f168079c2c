-- The half-bits of a capture before its first error.
use Rattle.std.specs.Prelude.{◌≡◌, ◌⊎◌, ℕ, ◌+◌, ◌-◌, ◌<◌, ◌∷◌, List, [], Option, None, Some, Result, Ok, Err, nat_le}
use Rattle.std.specs.Prelude.{length, replicate, IfSome, if◌then◌else◌}
use Rattle.dcc_io.specs.declared.fault.KeptFault.{KeptFault}
use Rattle.dcc_io.specs.declared.fault.KeptFault.TheVariants.{Number, Line, TooMuch}
use Rattle.dcc_io.specs.declared.word.Run.{Run}
use Rattle.dcc_io.specs.ReaderState.{IsAtEnd}
use Rattle.dcc_io.specs.InputState.{InputState}
use Rattle.dcc_io.specs.Took.{LinesAt}
use Rattle.dcc_io.specs.PassedWords.{Passed}
use Rattle.dcc_io.specs.Items.{Items, Grammar, in_text, before_failure, items_behind, only_fault, Gave, StopsAt}
use Rattle.dcc_io.specs.Words.{PlacedWord, ended_words, run_of}

-- the half-bits of `run`, and then the half-bits `rest (most - run.n)` of the words after `run`.
-- The limit allows `most` half-bits. If `run` has more than `most` half-bits, the result is the
-- error U7.
abbrev pub run_within : ℕ → Run → (ℕ → Items ℕ) → Items ℕ
run_within most run rest =
    if nat_le run.n most then items_behind (replicate run.n run.us) (rest (most - run.n)) else only_fault (Some TooMuch)

-- the half-bits of a word on line `line`, and then the half-bits of the words after this word. If
-- the word is a run, the result is `run_within most run rest`. If the word is no run, the result is
-- the error U2 of line `line`.
abbrev pub behind_word : ℕ → ℕ → Option Run → (ℕ → Items ℕ) → Items ℕ
behind_word most line None rest = only_fault (Some (Number line))
behind_word most line (Some run) rest = run_within most run rest

-- the half-bits of a list of words, if the limit allows `most` half-bits. `last` is the error after
-- the list, or `None` if the input ends there.
abbrev pub halves_of_words : ℕ → List PlacedWord → Option KeptFault → Items ℕ
halves_of_words most [] last = only_fault last
halves_of_words most (word ∷ words) last = behind_word most word.line (run_of word.bytes)
    (λ left. halves_of_words left words last)

abbrev pub captures : Grammar ℕ
captures input bytes last = halves_of_words input.halves (ended_words input.place bytes) last

-- the capture of an `input` with the text `text`
abbrev pub capture_in : InputState → List ℕ → Items ℕ
capture_in input text = in_text captures input text

-- the capture of an `input` whose reader fails after the bytes `used`
abbrev pub capture_before_failure : InputState → List ℕ → Items ℕ
capture_before_failure input used = before_failure captures input used

-- between the states `old` and `new`, the input read the half-bits `halves` without an error. The
-- number of these half-bits was subtracted from the limit.
pub record GaveHalves (old : InputState) (halves : List ℕ) (new : InputState) : Type 0 where
  pub items : Gave captures old halves new
  pub left : new.halves + length halves ≡ old.halves

-- the next word is a run of more half-bits than the limit of `old` allows. The line of this word is
-- the last line that was read.
pub record NextRunsOver (old new : InputState) : Type 0 where
  pub word : PlacedWord
  pub behind : InputState
  pub passed : Passed old (word ∷ []) behind
  pub run : Run
  pub spells : run_of word.bytes ≡ Some run
  pub over : old.halves < run.n
  pub lines : IfSome old.text (λ text. new.lines ≡ word.line)

-- the input read some half-bits. The next word is a run of more half-bits than the limit still
-- allows.
pub record RunsOver (old new : InputState) : Type 0 where
  pub halves : List ℕ
  pub mid : InputState
  pub gave : Gave captures old halves mid
  pub next : NextRunsOver mid new

-- the input has read the lines that `LinesAt` gives for an error of a capture. If a run exceeds the
-- limit of half-bits, the input has read the lines up to this run.
abbrev pub CaptureLinesAt : InputState → KeptFault → InputState → Type 0
CaptureLinesAt old (Line line fault) new = ⊥
CaptureLinesAt old TooMuch new = LinesAt old TooMuch new ⊎ RunsOver old new
CaptureLinesAt old fault new = LinesAt old fault new

-- the result is the next run, `None` at the end of the capture, or the first error
abbrev pub AnswersRun : InputState → Result (Option Run) KeptFault → InputState → Type 0
AnswersRun old (Ok (Some run)) new = GaveHalves old (replicate run.n run.us) new × (0 < run.n) × (new.bytes < old.bytes)
AnswersRun old (Ok None) new =
    GaveHalves old [] new × IsAtEnd new.text × IfSome old.text (λ text. capture_in old text ≡ only_fault None)
AnswersRun old (Err (Line line fault)) new = ⊥
AnswersRun old (Err fault) new =
    StopsAt captures old fault new × (new.fault ≡ Some fault) × CaptureLinesAt old fault new

-- the error `fault` can occur in a capture: it is not U3
abbrev pub IsOfCapture : KeptFault → Type 0
IsOfCapture (Line line fault) = ⊥
IsOfCapture fault = Unit {0}
