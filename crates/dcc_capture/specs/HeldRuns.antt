-- The runs of a capture for an operation that writes lines. A part of the written bytes can be
-- buffered.
use Rattle.std.specs.Prelude.{◌≡◌, ℕ, ◌++◌, ◌⊎◌, List, [], Option, Result, Ok, Err, OnOk}
use Rattle.std.specs.Io.KnownBytes.{Appends}
use Rattle.dcc_io.specs.declared.stream.Failed.{Failed}
use Rattle.dcc_io.specs.declared.fault.ToolFault.{ToolFault}
use Rattle.dcc_io.specs.declared.fault.ToolFault.TheVariants.{Write}
use Rattle.dcc_io.specs.declared.fault.KeptFault.{KeptFault}
use Rattle.dcc_io.specs.declared.word.Run.{Run}
use Rattle.dcc_io.specs.Failures.{HasRisen}
use Rattle.dcc_io.specs.InputState.{InputState}
use Rattle.dcc_io.specs.WriterState.{WriterState}
use Rattle.dcc_io.specs.WrittenBytes.{AppendsFront}
use Rattle.dcc_io.specs.Held.{Holds, HoldsOrFails}
use Rattle.dcc_capture.specs.Capture.{AnswersRun}
use Rattle.dcc_capture.specs.Listing.{AreLines}

-- let `held` and then the lines of `items` form one list of bytes. If the result is Ok, this list
-- was written except for its suffix `left`, which is buffered. If the result is an error, a write
-- failed or wrote no byte, and a prefix of this list was written.
abbrev pub HoldsLines : {A : Type 0} → (ℕ → A → List ℕ → Type 0) → List (ℕ × A) → WriterState → List ℕ
    → Result (Unit {0}) Failed → List ℕ → WriterState → Type 0
HoldsLines IsLineOf items before held result left after =
    (text : List ℕ) × AreLines IsLineOf items text × HoldsOrFails before (held ++ text) result left after

-- either all buffered bytes `held` were written, and `result` is `answer`, or a prefix of `held`
-- was written, and `result` is the error U5. In the second case, a write failed or wrote no byte.
abbrev pub WritesRest : WriterState → List ℕ → Result (Unit {0}) ToolFault → Result (Unit {0}) ToolFault → WriterState
    → Type 0
WritesRest before held answer result after =
    ((result ≡ answer) × Appends before.contents after.contents held × (after.failures ≡ before.failures))
    ⊎ ((result ≡ Err Write) × AppendsFront before after held × HasRisen before.failures after.failures)

-- if the result is Ok, the buffered bytes `held` were written except for their suffix `left`, and
-- the input read the next run. If the result is an error, a write failed or wrote no byte, and the
-- input read nothing.
abbrev pub ReadsRun : InputState → WriterState → List ℕ → Result (Result (Option Run) KeptFault) Failed → InputState
    → List ℕ → WriterState → Type 0
ReadsRun old before held (Ok answer) new left after =
    AnswersRun old answer new × Holds before after held left × (after.failures ≡ before.failures)
ReadsRun old before held (Err failed) new left after =
    (new ≡ old) × AppendsFront before after held × HasRisen before.failures after.failures

-- The list `halves` follows the half-bits `durations`. The function `items` gives the items of a list
-- of half-bits. If the result is Ok, the lines of the items that `halves` adds were appended to `held`,
-- and `left` is buffered. If the result is an error, `halves` begins with a list `some`, the lines of
-- the items that `some` adds were appended, and a write failed or wrote no byte.
pub record HoldsListing {A : Type 0} (IsLineOf : ℕ → A → List ℕ → Type 0) (items : List ℕ → List (ℕ × A))
    (durations halves : List ℕ) (before : WriterState) (held : List ℕ) (result : Result (Unit {0}) Failed)
    (left : List ℕ) (after : WriterState)
    : Type 0 where
  pub some : List ℕ
  pub rest : List ℕ
  pub whole : halves ≡ some ++ rest
  pub all : OnOk result (rest ≡ [])
  pub more : List (ℕ × A)
  pub adds : items (durations ++ some) ≡ items durations ++ more
  pub holds : HoldsLines IsLineOf more before held result left after
