-- How an input reads the first of two captures.
use Rattle.std.specs.Prelude.{◌≡◌, ◌⊎◌, ℕ, ◌+◌, ◌<◌, ◌++◌, List, [], Option, None, Some}
use Rattle.std.specs.Prelude.{Result, Ok, Err, replicate}
use Rattle.dcc_io.specs.declared.fault.KeptFault.{KeptFault}
use Rattle.dcc_io.specs.declared.fault.KeptFault.TheVariants.{Line, Read, TooMuch}
use Rattle.dcc_io.specs.declared.word.Run.{Run}
use Rattle.dcc_io.specs.ReaderState.{IsAtEnd}
use Rattle.dcc_io.specs.InputState.{InputState, UsesAllLines}
use Rattle.dcc_io.specs.Words.{ended_words}
use Rattle.dcc_io.specs.Took.{Uses, Took, Stops, LinesAt}
use Rattle.dcc_io.specs.LineEnd.{IsBehindLine}
use Rattle.dcc_capture.specs.Capture.{NextRunsOver}
use Rattle.dcc_capture.specs.BothCaptures.{Said, fault_alone, in_front, behind_mark, both_from, in_limit}

-- the input reads `used` in state `input`, and any bytes `more` can follow. The function `said`,
-- applied to `more`, gives both captures of the bytes `used` and `more`. The word before `used` is
-- on line `before`.
abbrev pub SaysBehind : ℕ → InputState → Said → List ℕ → Type 0
SaysBehind before input said used = (end : ℕ) (more : List ℕ) (last : Option KeptFault)
    → both_from before input end (used ++ more) last ≡ said end more last

-- the input read the bytes of `text` before `rest`. The function `said`, applied to `rest`, gives
-- both captures of the input.
abbrev pub LeadsIn : ℕ → InputState → InputState → Said → List ℕ → List ℕ → Type 0
LeadsIn before old new said text rest = Uses (SaysBehind before old said) old new text rest

-- the input was read from the state `old` to the state `new` without an error. The function `said`,
-- applied to the bytes that are still to be read, gives both captures of the input.
abbrev pub LeadsTo : ℕ → InputState → InputState → Said → Type 0
LeadsTo before old new said = Took (SaysBehind before old said) old new

-- both captures of an input that has read the half-bits `halves` of its first capture. The bytes
-- `more` are still to be read, and contain the other half-bits of both captures. The word before
-- `more` is on line `before`.
abbrev pub first_so_far : List ℕ → ℕ → InputState → Said
first_so_far halves before input end more last = in_front halves (both_from before input end more last)

-- both captures of an input that has read its first capture, and the word `---` at the beginning of
-- line `line`. The first capture consists of `halves`. The bytes `more` are still to be read, and
-- contain the second capture.
abbrev pub first_is : List ℕ → ℕ → InputState → Said
first_is halves line input end more last =
    in_front halves (behind_mark line input.halves (ended_words input.place more) last)

-- the input has read a line that begins with the word `---`. `halves` are the half-bits of the
-- first capture before that line.
pub record EndsFirst (before : ℕ) (old : InputState) (halves : List ℕ) (new : InputState) : Type 0 where
  pub line : ℕ
  pub leads : LeadsTo before old new (first_is halves line new)
  pub behind : IsBehindLine line new

-- the first capture has no half-bit before the error `fault`
abbrev pub StopsBoth : ℕ → InputState → KeptFault → InputState → Type 0
StopsBoth before old fault new =
    Stops (λ used. (end : ℕ) → both_from before old end used (Some Read) ≡ fault_alone Read)
    (λ text. in_limit (both_from before old) old text ≡ fault_alone fault) old fault new

-- the input read some half-bits of the first capture. The next word is a run of more half-bits than
-- the limit still allows.
pub record FirstRunsOver (before : ℕ) (old new : InputState) : Type 0 where
  pub halves : List ℕ
  pub line : ℕ
  pub mid : InputState
  pub leads : LeadsTo before old mid (first_so_far halves line mid)
  pub next : NextRunsOver mid new

-- the input has read the lines that `LinesAt` gives for an error of the first capture. If the line
-- `---` is missing, the input has read all lines. If a run exceeds the limit, the input has read
-- the lines up to this run.
abbrev pub FirstLinesAt : ℕ → InputState → KeptFault → InputState → Type 0
FirstLinesAt before old (Line line fault) new = IsAtEnd new.text × UsesAllLines old new
FirstLinesAt before old TooMuch new = LinesAt old TooMuch new ⊎ FirstRunsOver before old new
FirstLinesAt before old fault new = LinesAt old fault new

-- the result is the next run of the first capture and the line of this run. At the line `---` the
-- result is `None`, and at the first error it is this error.
abbrev pub AnswersFirst : ℕ → InputState → Result (Option (ℕ × Run)) KeptFault → InputState → Type 0
AnswersFirst before old (Ok (Some taken)) new =
    LeadsTo before old new (first_so_far (replicate taken.1.n taken.1.us) taken.0 new)
    × (new.halves + taken.1.n ≡ old.halves) × (0 < taken.1.n) × (new.bytes < old.bytes)
AnswersFirst before old (Ok None) new = EndsFirst before old [] new
AnswersFirst before old (Err fault) new =
    StopsBoth before old fault new × (new.fault ≡ Some fault) × FirstLinesAt before old fault new
