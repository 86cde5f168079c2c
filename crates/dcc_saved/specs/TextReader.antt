-- Readers, which parse a text line by line.
use Rattle.std.specs.Prelude.{ℕ, ◌+◌, ◌==◌, List, [], ◌∷◌, Option, None, Some, Result, Ok, Err, if◌then◌else◌}
use Rattle.dcc_packet.specs.declared.fault.PacketFault.{PacketFault}
use Rattle.dcc_packet.specs.declared.fault.PacketFault.TheVariants as faults
use Rattle.dcc_packet.specs.Words.{words}
use Rattle.dcc_io.specs.NumberedLines.{is_good}
use Rattle.dcc_saved.specs.Lines.{LineOf}

-- a text and the number of its first line
pub record Text : Type 0 where
  pub line : ℕ
  pub bytes : List ℕ

-- the reason why a reader stops before the end of a text
pub data Stop : Type 0 where
  -- the line with this number has this error
  refused : ℕ → PacketFault → Stop
  -- the text ends before the line with this number ends
  cut : ℕ → Stop
  -- a decoder exceeds the limit of decoders. The number is the number of the first line of this
  -- decoder plus one.
  too_many : ℕ → Stop

-- a reader: a function from a text to a value and the rest of the text. If the reader stops, the
-- function returns the reason.
abbrev pub Reader : Type 0 → Type 0
Reader A = Text → Result (A × Text) Stop

abbrev pub read_on : {A B : Type 0} → Result (A × Text) Stop → (A → Reader B) → Result (B × Text) Stop
read_on (Ok read) next = next read.0 read.1
read_on (Err stop) next = Err stop

-- the reader `first`, and then the reader that `next` gives for the value of `first`
infixl 10 ◌>>=◌
abbrev pub ◌>>=◌ : {A B : Type 0} → Reader A → (A → Reader B) → Reader B
(first >>= next) text = read_on (first text) next

abbrev pub done : {A : Type 0} → A → Reader A
done x text = Ok (x, text)

-- the reader that stops because a decoder exceeds the limit of decoders. The first line of this
-- decoder is the line before `text`.
abbrev pub stop_at_decoder : {A : Type 0} → Reader A
stop_at_decoder text = Err (too_many text.line)

-- the bytes of a text before its first line feed, or all its bytes if it has no line feed
abbrev pub first_line : List ℕ → List ℕ
first_line [] = []
first_line (byte ∷ text) = if byte == 10 then [] else byte ∷ first_line text

-- the bytes of a text after its first line feed, or `None` if it has no line feed
abbrev pub after_first_line : List ℕ → Option (List ℕ)
after_first_line [] = None
after_first_line (byte ∷ text) = if byte == 10 then Some text else after_first_line text

-- the value of line `n`, and the text `rest` after this line. If the line has an error, the result
-- is this error.
abbrev pub line_verdict : {A : Type 0} → ℕ → Result A PacketFault → List ℕ → Result (A × Text) Stop
line_verdict n (Ok x) rest = Ok (x, record { line = n + 1; bytes = rest })
line_verdict n (Err fault) rest = Err (refused n fault)

abbrev pub ended_line : {A : Type 0} → LineOf A → ℕ → List ℕ → Option (List ℕ) → Result (A × Text) Stop
ended_line line n bytes None = Err (cut n)
ended_line line n bytes (Some rest) = line_verdict n (line.read (words bytes)) rest

-- the reader of one line of the kind `line`
abbrev pub line_by : {A : Type 0} → LineOf A → Reader A
line_by line text =
    if is_good (first_line text.bytes) then ended_line line text.line (first_line text.bytes)
    (after_first_line text.bytes)
    else Err (refused text.line faults.Word)
