-- The state of an input.
use Rattle.std.specs.Prelude.{◌≡◌, ℕ, ◌+◌, ◌<◌, ◌≤◌, ◌∷◌, ◌++◌, List, [], Bool, false, Option, None, Some, Result, Ok}
use Rattle.std.specs.Prelude.{Err, length, IfSome, if◌then◌else◌}
use Rattle.std.specs.Option.{option_map}
use Rattle.std.specs.Io.KnownBytes.{Keeps}
use Rattle.dcc_io.specs.declared.fault.KeptFault.{KeptFault}
use Rattle.dcc_io.specs.declared.fault.KeptFault.TheVariants.{Number, Line, Read, TooMuch}
use Rattle.dcc_io.specs.TextPlace.{TextPlace, line_behind, lines_with, lines_through}
use Rattle.dcc_io.specs.Failures.{one_more}
use Rattle.dcc_io.specs.ReaderState.{StartsWithByte, IsAtEnd}

-- the state of an input
pub record InputState : Type 0 where
  -- the bytes that are still to be read, with a line feed at the end. If the contract of the reader
  -- does not give its bytes, the value is `None`.
  pub text : Option (List ℕ)
  -- the buffered bytes, which are the first bytes of `text`
  pub ahead : List ℕ
  pub place : TextPlace
  -- the number of lines that were read. A line that was read in part counts too. The line feed
  -- after the text is on no line.
  pub lines : ℕ
  -- the number of half-bits that the limit still allows
  pub halves : ℕ
  -- the number of bytes that the limit still allows, plus one for the line feed after the text
  pub bytes : ℕ
  -- the stored error
  pub fault : Option KeptFault
  -- the number of failed reads
  pub failures : ℕ

-- the number of line feeds that the input still appends to its text. The number is 0 if `closed` is
-- true, otherwise 1.
abbrev pub closing : Bool → ℕ
closing closed = if closed then 0 else 1

-- the bytes that an input still reads, if its reader has the bytes `coming`. If `closed` is false,
-- the list is `coming` and then a line feed. If `closed` is true, this line feed was already read,
-- and the list is empty.
abbrev pub closed_text : Bool → Option (List ℕ) → Option (List ℕ)
closed_text closed coming = option_map (λ bytes. if closed then [] else bytes ++ 10 ∷ []) coming

-- the state of an input from which no byte was read. Its reader has the bytes `remaining` and the
-- count `failures`. The limits are `halves` and `bytes`.
abbrev pub fresh : Option (List ℕ) → ℕ → ℕ → ℕ → InputState
fresh remaining failures halves bytes = record {
  text = closed_text false remaining;
  ahead = [];
  place = record { line = 1; in_comment = false };
  lines = 0;
  halves = halves;
  bytes = bytes + 1;
  fault = None;
  failures = failures;
}

-- the number of lines that `input` has read when it has read all bytes of `text`
abbrev pub all_lines : InputState → List ℕ → ℕ
all_lines input text = lines_through input.lines input.place.line text

-- the number of lines that `input` has read when it has read the bytes `used`, and more bytes
-- follow these bytes
abbrev pub lines_up_to : InputState → List ℕ → ℕ
lines_up_to input used = all_lines input (used ++ 10 ∷ [])

-- the input has read all lines of the text of `old`
abbrev pub UsesAllLines : InputState → InputState → Type 0
UsesAllLines old new = IfSome old.text (λ text. new.lines ≡ all_lines old text)

-- if the stored error is U4, the count of failed reads is above 0
abbrev pub ReadHasFailure : Option KeptFault → ℕ → Type 0
ReadHasFailure fault failures = fault ≡ Some Read → 0 < failures

-- the next byte of the input, `byte`, was removed
pub record TakesByte (old : InputState) (byte : ℕ) (new : InputState) : Type 0 where
  pub text : StartsWithByte old.text byte new.text
  pub line : new.place.line ≡ line_behind old.place.line byte
  pub in_comment : new.place.in_comment ≡ old.place.in_comment
  pub lines : IfSome new.text (λ rest. new.lines ≡ lines_with old.lines old.place.line rest)
  pub halves : new.halves ≡ old.halves
  pub bytes : new.bytes + 1 ≡ old.bytes
  pub room : new.bytes ≡ 0 → IsAtEnd new.text
  -- if no byte is left, `byte` is the line feed after the text
  pub last : IfSome new.text (λ rest. rest ≡ [] → byte ≡ 10)
  pub fault : new.fault ≡ None
  pub failures : new.failures ≡ old.failures

-- a read failed when the buffer was empty. The read removed no byte, and the line feed after the
-- text is still to be read.
pub record FailsToRead (old new : InputState) : Type 0 where
  pub text : Keeps old.text new.text
  pub more : IfSome old.text (λ text. 0 < length text)
  pub lines : new.lines ≡ old.lines
  pub ahead : new.ahead ≡ []
  pub halves : new.halves ≡ old.halves
  pub fault : new.fault ≡ Some Read
  pub failures : new.failures ≡ one_more old.failures

-- the limit of `old` allows no further byte, but the text of `old` has further bytes
pub record HasMoreBytes (old new : InputState) : Type 0 where
  pub text : IfSome old.text (λ text. old.bytes < length text)
  pub bytes : old.bytes ≤ 1
  pub lines : new.lines ≡ old.lines
  pub fault : new.fault ≡ Some TooMuch
  pub failures : new.failures ≡ old.failures

abbrev pub AnswersByte : InputState → Result (Option ℕ) KeptFault → InputState → Type 0
AnswersByte old (Ok (Some byte)) new = TakesByte old byte new
AnswersByte old (Ok None) new = (new ≡ old) × IsAtEnd old.text
AnswersByte old (Err Read) new = FailsToRead old new
AnswersByte old (Err TooMuch) new = HasMoreBytes old new
AnswersByte old (Err (Number line)) new = ⊥
AnswersByte old (Err (Line line fault)) new = ⊥
