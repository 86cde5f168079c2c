-- How a reader of a text reads an input.
use Rattle.std.specs.Prelude.{◌≡◌, ◌⊎◌, ℕ, ◌+◌, ◌<◌, ◌++◌, List, Option, Some, Result, Ok, Err, length, IfSome}
use Rattle.dcc_io.specs.declared.fault.KeptFault.{KeptFault}
use Rattle.dcc_io.specs.declared.fault.KeptFault.TheVariants.{Number, Line, Read, TooMuch}
use Rattle.dcc_io.specs.ReaderState.{IsAtEnd}
use Rattle.dcc_io.specs.InputState.{InputState, UsesAllLines}
use Rattle.dcc_io.specs.Took.{Took, within_limit, fault_at_end, Stops, LinesAt}
use Rattle.dcc_saved.specs.TextReader.{Text, Stop, Reader, done}
use Rattle.dcc_saved.specs.TextReader.Stop.{refused, cut, too_many}

-- the text that consists of `bytes` and begins on the current line of `input`
abbrev pub at : InputState → List ℕ → Text
at input bytes = record { line = input.place.line; bytes = bytes }

-- the error of a reader that stops before the end of a text. If the text ends too early, the error
-- is `last`, which comes after the bytes of the text. If `last` is `None`, the error is P10.
abbrev pub stop_fault : Option KeptFault → Stop → KeptFault
stop_fault last (refused line fault) = Line line fault
stop_fault last (cut line) = fault_at_end line last
stop_fault last (too_many line) = TooMuch

-- the value that a reader returned. If the reader stopped, the result is its error. `last` is the
-- error after the bytes of the text, or `None` if the input ends there.
abbrev pub result_of : {A : Type 0} → Option KeptFault → Result (A × Text) Stop → Result A KeptFault
result_of last (Ok read) = Ok read.0
result_of last (Err stop) = Err (stop_fault last stop)

-- the result of the reader `read` for `bytes`, which begin on the current line of `input`. `last`
-- is the error after these bytes, or `None` if the input ends there.
abbrev pub answer_at : {A : Type 0} → Reader A → InputState → List ℕ → Option KeptFault → Result A KeptFault
answer_at read input bytes last = result_of last (read (at input bytes))

-- the result of the reader `read` for an `input` with the text `text`
abbrev pub answer_in : {A : Type 0} → Reader A → InputState → List ℕ → Result A KeptFault
answer_in read input text = within_limit (answer_at read input) input text

-- the result of the reader `read` for an `input` whose reader fails after the bytes `used`
abbrev pub answer_before_failure : {A : Type 0} → Reader A → InputState → List ℕ → Result A KeptFault
answer_before_failure read input used = answer_at read input used (Some Read)

-- let any bytes `more` follow `used`. The reader `read` has the same result for `used` and `more`
-- as the reader `rest_read` has for `more`.
pub record ContinuesAs {A : Type 0} (read : Reader A) (old : InputState) (rest_read : Reader A) (new : InputState)
    (used : List ℕ) : Type 0 where
  pub goes_on : (more : List ℕ) → read (at old (used ++ more)) ≡ rest_read (at new more)
  -- if a byte was read, the next byte is on the line after the last line that was read
  pub last : 0 < length used → new.lines + 1 ≡ new.place.line
  pub still : length used ≡ 0 → (new.lines ≡ old.lines) × (new.place.line ≡ old.place.line)

-- between the states `old` and `new`, the input was read without an error, and the reader `read`
-- continues as the reader `rest_read`
pub record Leads {A : Type 0} (read : Reader A) (old : InputState) (rest_read : Reader A) (new : InputState) : Type 0
  where
    pub took : Took (ContinuesAs read old rest_read new) old new
    pub open took use *
    pub in_comment : new.place.in_comment ≡ old.place.in_comment
    pub halves : new.halves ≡ old.halves

-- the next byte of `new` is on the line after the last line that was read
abbrev pub UsedWholeLines : InputState → InputState → Type 0
UsedWholeLines old new = IfSome old.text (λ text. new.lines + 1 ≡ new.place.line)

-- the reader `read` stops in the text of `old` with the error `fault`
abbrev pub TextStopsAt : {A : Type 0} → Reader A → InputState → KeptFault → InputState → Type 0
TextStopsAt read old fault new =
    Stops (λ used. answer_before_failure read old used ≡ Err Read) (λ text. answer_in read old text ≡ Err fault) old
    fault new

-- the reader `read` stops in the text of `old` with the error `fault`, which is not U2
abbrev pub RefusesText : {A : Type 0} → Reader A → InputState → KeptFault → InputState → Type 0
RefusesText read old (Number line) new = ⊥
RefusesText read old fault new = TextStopsAt read old fault new

-- the input has read the lines up to line `line`, or all lines. If the input has read all lines,
-- and `old` was at the beginning of a line, `line` is the number of the last line plus one.
abbrev pub UsesThroughLine : InputState → ℕ → InputState → Type 0
UsesThroughLine old line new = IfSome old.text (λ text. new.lines ≡ line)
    ⊎ (IsAtEnd new.text × UsesAllLines old new
    × IfSome old.text (λ text. old.lines + 1 ≡ old.place.line → line ≡ new.lines + 1))

-- a reader stopped at a decoder that exceeds the limit of decoders. `line` is the number of the
-- first line of this decoder plus one.
abbrev pub StopsAtDecoder : {A : Type 0} → Result (A × Text) Stop → ℕ → Type 0
StopsAtDecoder (Err (too_many behind)) line = line ≡ behind
StopsAtDecoder read line = ⊥

-- the input has read the lines up to an error of the reader `read`. If the error is U7, these are
-- the lines of the allowed bytes, or the lines up to the first line of the decoder that exceeds the
-- limit of decoders.
abbrev pub TextLinesAt : {A : Type 0} → Reader A → InputState → KeptFault → InputState → Type 0
TextLinesAt read old (Line line fault) new = UsesThroughLine old line new
TextLinesAt read old TooMuch new =
    LinesAt old TooMuch new ⊎ IfSome old.text (λ text. StopsAtDecoder (read (at old text)) (new.lines + 1))
TextLinesAt read old fault new = LinesAt old fault new

-- the result is the value that the reader `read` returns for the text of `old`. If `read` has an
-- error, the result is this error, and the input stores it.
abbrev pub ReadsValue : {A : Type 0} → Reader A → InputState → Result A KeptFault → InputState → Type 0
ReadsValue read old (Ok x) new = Leads read old (done x) new
ReadsValue read old (Err fault) new = RefusesText read old fault new × (new.fault ≡ Some fault)
    × TextLinesAt read old fault new
