-- The result of `show`.
use Rattle.std.specs.Prelude.{◌≡◌, ℕ, ◌+◌, ◌++◌, Bool, List, Option, None, Some, Result, length, IfSome}
use Rattle.std.specs.Io.KnownBytes.{Appends}
use Rattle.dcc_wire.specs.Framing.{seen}
use Rattle.dcc_io.specs.declared.fault.ToolFault.{ToolFault}
use Rattle.dcc_io.specs.declared.fault.KeptFault.{KeptFault}
use Rattle.dcc_io.specs.Calls.{CallPost, ReadsAll, ReadsTo}
use Rattle.dcc_capture.specs.Capture.{IsOfCapture, CaptureLinesAt}
use Rattle.dcc_io.specs.InputState.{InputState}
use Rattle.dcc_io.specs.Items.{ReadsUpTo}
use Rattle.dcc_capture.specs.Capture.{captures, capture_in}
use Rattle.dcc_capture.specs.Listing.{AreLines, IsLine}
use Rattle.dcc_io.specs.WriterState.{WriterState}
use Rattle.dcc_io.specs.WrittenBytes.{AppendsFront}

-- the lines of `items` were written between the states `before` and `after`. The predicate
-- `IsLineOf` says which line an item has.
abbrev pub WritesLines : {A : Type 0} → (ℕ → A → List ℕ → Type 0) → WriterState → WriterState → List (ℕ × A) → Type 0
WritesLines IsLineOf before after items =
    (text : List ℕ) × AreLines IsLineOf items text × Appends before.contents after.contents text

-- a prefix of the lines of `items` was written between the states `before` and `after`
pub record WritesFrontOfLines {A : Type 0} (IsLineOf : ℕ → A → List ℕ → Type 0) (before after : WriterState)
    (items : List (ℕ × A)) : Type 0 where
  pub shown : List (ℕ × A)
  pub later : List (ℕ × A)
  pub whole : items ≡ shown ++ later
  pub text : List ℕ
  pub lists : AreLines IsLineOf shown text
  pub written : AppendsFront before after text

-- a write failed. If the input stores an error, `fact` holds for the half-bits of the capture
-- before this error. If the input stores no error, `fact` holds for all half-bits of the capture.
abbrev pub StopsWriting : InputState → Option KeptFault → InputState → (List ℕ → Type 0) → Type 0
StopsWriting old (Some fault) new fact = ReadsUpTo captures old (Some fault) new fact × CaptureLinesAt old fault new
StopsWriting old None new fact =
    IfSome old.text (λ text. fact (capture_in old text).said) × (new.failures ≡ old.failures)

-- An operation has written a line for each item of a capture. The function `items` gives the items
-- of a list of half-bits. If the result is Ok, the lines of the whole capture were written. After
-- an error of the input, the lines of the half-bits before the error were written. After a failed
-- write, a prefix of these lines was written.
abbrev pub WritesLinesOfCapture : {A : Type 0} → (ℕ → A → List ℕ → Type 0) → (List ℕ → List (ℕ × A)) → InputState
    → WriterState → Result (Unit {0}) ToolFault → InputState → WriterState → Type 0
WritesLinesOfCapture IsLineOf items old before result new after =
    CallPost
    (λ done. ReadsAll captures old new
    (λ halves. WritesLines IsLineOf before after (items halves) × (new.halves + length halves ≡ old.halves)))
    (λ fault. IsOfCapture fault
    × ReadsTo captures old fault new (λ halves. WritesLines IsLineOf before after (items halves))
    × CaptureLinesAt old fault new)
    (StopsWriting old new.fault new (λ halves. WritesFrontOfLines IsLineOf before after (items halves))) ⊥ before result
    after

-- a listing of the outcomes in `halves` was written, with packet lines if `words` is true
abbrev pub WritesListing : Bool → WriterState → WriterState → List ℕ → Type 0
WritesListing words before after halves = WritesLines (IsLine words) before after (seen halves)

-- `show` writes the listing of the outcomes of a capture, with packet lines if `words` is true
abbrev pub Shows : Bool → InputState → WriterState → Result (Unit {0}) ToolFault → InputState → WriterState → Type 0
Shows words old before result new after = WritesLinesOfCapture (IsLine words) seen old before result new after
