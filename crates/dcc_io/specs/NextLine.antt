-- How an input reads lines.
use Rattle.std.specs.Prelude.{◌≡◌, ℕ, ◌+◌, ◌<◌, ◌∷◌, ◌++◌, ◌==◌, List, [], Bool, true, false, Option, None}
use Rattle.std.specs.Prelude.{Some, Result, Ok, Err, length, IfSome, IsSomeAnd}
use Rattle.std.specs.List.{list_any}
use Rattle.dcc_packet.specs.declared.fault.PacketFault.TheVariants as faults
use Rattle.dcc_io.specs.declared.text_line.TextLine.{TextLine}
use Rattle.dcc_io.specs.declared.fault.KeptFault.{KeptFault}
use Rattle.dcc_io.specs.declared.fault.KeptFault.TheVariants.{Number, Line, Read, TooMuch}
use Rattle.dcc_io.specs.TextPlace.{lines_with}
use Rattle.dcc_io.specs.ReaderState.{IsAtEnd}
use Rattle.dcc_io.specs.InputState.{InputState}
use Rattle.dcc_io.specs.Took.{Took, FailsBehind, OverflowsBehind, LinesAt}
use Rattle.dcc_io.specs.NumberedLines.{is_good}

-- true if `bytes` contain a line feed
abbrev pub has_line_feed : List ℕ → Bool
has_line_feed bytes = list_any (λ byte. byte == 10) bytes

-- `line` is a valid line or a prefix of a valid line, without a line feed
pub record IsOneLine (line : List ℕ) : Type 0 where
  pub good : is_good line ≡ true
  pub one : has_line_feed line ≡ false

-- the number of lines that the input has read when it has read the bytes `front` of line `line`,
-- but not the line feed of this line. If `front` is empty, the number is still `lines`.
abbrev pub lines_within : ℕ → ℕ → List ℕ → ℕ
lines_within lines line [] = lines
lines_within lines line (byte ∷ front) = line

-- between the states `old` and `new`, the input read the line `line` with the number `number`, and
-- the line feed after it
pub record ReadsLine (old : InputState) (number : ℕ) (line : List ℕ) (new : InputState) : Type 0 where
  pub at : number ≡ old.place.line
  pub is_line : IsOneLine line
  pub text : IfSome old.text (λ text. IsSomeAnd new.text (λ rest. text ≡ line ++ 10 ∷ rest))
  pub next : new.place ≡ record { line = old.place.line + 1; in_comment = old.place.in_comment }
  pub lines : IfSome old.text
      (λ text. IsSomeAnd new.text
      (λ rest. new.lines ≡ lines_with (lines_within old.lines old.place.line line) old.place.line rest))
  pub halves : new.halves ≡ old.halves
  pub bytes : new.bytes + length line + 1 ≡ old.bytes
  pub room : new.bytes ≡ 0 → IsAtEnd new.text
  pub fault : new.fault ≡ None
  pub failures : new.failures ≡ old.failures

-- the text of `old` has no byte left, and the input is at the start of a line
pub record EndsText (old new : InputState) : Type 0 where
  pub text : IfSome old.text (λ text. IsSomeAnd new.text (λ rest. (text ≡ []) × (rest ≡ [])))
  pub at_end : IsAtEnd new.text
  pub took : Took (λ used. used ≡ []) old new
  pub place : new.place ≡ old.place
  pub halves : new.halves ≡ old.halves

-- `text` begins with `line`, which is an invalid line or a prefix of an invalid line. The limit of
-- `old` allows the bytes of `line`.
pub record IsBadAt (old : InputState) (text : List ℕ) : Type 0 where
  pub line : List ℕ
  pub rest : List ℕ
  pub whole : text ≡ line ++ rest
  pub bad : is_good line ≡ false
  pub one : has_line_feed line ≡ false
  pub within : length line < old.bytes

pub record MeetsBadLine (old : InputState) (number : ℕ) (new : InputState) : Type 0 where
  pub at : number ≡ old.place.line
  pub text : IfSome old.text (IsBadAt old)
  pub lines : LinesAt old (Line number faults.Word) new
  pub fault : new.fault ≡ Some (Line number faults.Word)
  pub failures : new.failures ≡ old.failures

-- the input read a prefix of one valid line, and then a read failed
abbrev pub FailsInLine : InputState → InputState → Type 0
FailsInLine old new = FailsBehind IsOneLine old new × (new.fault ≡ Some Read) × LinesAt old Read new

-- the limit of `old` allows fewer bytes than the text has. The allowed bytes are a prefix of one
-- valid line.
abbrev pub OverflowsInLine : InputState → InputState → Type 0
OverflowsInLine old new = OverflowsBehind IsOneLine old new × (new.fault ≡ Some TooMuch) × LinesAt old TooMuch new

-- the result is the next line with its number, or `None` at the end of the text, or an error. The
-- error is U3 for an invalid line, U4 if a read failed within the line, and U7 if the limit of
-- bytes ended within the line.
abbrev pub AnswersLine : InputState → Result (Option TextLine) KeptFault → InputState → Type 0
AnswersLine old (Ok (Some line)) new = ReadsLine old line.number line.text.bytes new
AnswersLine old (Ok None) new = EndsText old new
AnswersLine old (Err (Line number fault)) new = (fault ≡ faults.Word) × MeetsBadLine old number new
AnswersLine old (Err Read) new = FailsInLine old new
AnswersLine old (Err TooMuch) new = OverflowsInLine old new
AnswersLine old (Err (Number number)) new = ⊥
