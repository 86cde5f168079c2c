-- The result of a function that reads an input and writes text.
use Rattle.std.specs.Prelude.{◌≡◌, List, None, Some, Result, Ok, Err, IfSome}
use Rattle.dcc_io.specs.declared.fault.KeptFault.{KeptFault}
use Rattle.dcc_io.specs.declared.fault.KeptFault.TheVariants as kept
use Rattle.dcc_io.specs.declared.fault.ToolFault.{ToolFault}
use Rattle.dcc_io.specs.Failures.{HasRisen}
use Rattle.dcc_io.specs.Faults.{ErrorPost}
use Rattle.dcc_io.specs.ReaderState.{IsAtEnd}
use Rattle.dcc_io.specs.InputState.{InputState, UsesAllLines}
use Rattle.dcc_io.specs.Took.{LinesAt}
use Rattle.dcc_io.specs.Items.{Grammar, ReadsUpTo, in_text}
use Rattle.dcc_io.specs.WriterState.{WriterState}

-- If the result is Ok, `done` holds for its value. If the result is a stored error of the input,
-- `stopped` holds for this error. After a failed write `unwritten` holds, and after a failed
-- allocation `no_memory` holds. Only a failed write increases the count of failures of the writer.
abbrev pub CallPost : {A : Type 0} → (A → Type 0) → (KeptFault → Type 0) → Type 0 → Type 0 → WriterState
    → Result A ToolFault → WriterState → Type 0
CallPost done stopped unwritten no_memory before (Ok answer) after =
    done answer × (after.failures ≡ before.failures)
CallPost done stopped unwritten no_memory before (Err fault) after =
    ErrorPost (λ kept. stopped kept × (after.failures ≡ before.failures))
    (unwritten × HasRisen before.failures after.failures) (no_memory × (after.failures ≡ before.failures)) fault

-- the input in state `old` was read to its end without an error, and is in state `new`. `fact`
-- holds for the list of the items that `grammar` gives.
pub record ReadsAll {A : Type 0} (grammar : Grammar A) (old new : InputState) (fact : List A → Type 0) : Type 0 where
  pub items : ReadsUpTo grammar old None new fact
  pub at_end : IsAtEnd new.text
  pub lines : UsesAllLines old new
  pub fault : new.fault ≡ None

-- the input in state `old` was read up to the error `fault`, and is in state `new`, which stores
-- this error. `fact` holds for the list of the items before the error.
pub record ReadsTo {A : Type 0} (grammar : Grammar A) (old : InputState) (fault : KeptFault) (new : InputState)
    (fact : List A → Type 0) : Type 0 where
  pub kept : new.fault ≡ Some fault
  pub items : ReadsUpTo grammar old (Some fault) new fact

-- the error `fault` can occur in an input of lines: it is not U2
abbrev pub IsOfLines : KeptFault → Type 0
IsOfLines (kept.Number line) = ⊥
IsOfLines fault = Unit {0}

-- an operation that reads lines and writes text for each line, such as `encode`, has returned
-- `result`. If no write failed, `whole` holds for the items of all lines before the first error of
-- the input. If a write failed, three facts hold: `front` holds for the items of all lines before
-- the first error of the text, no read failed, and the input stores no error.
abbrev pub WritesOfLines : {A : Type 0} → Grammar A → (List A → Type 0) → (List A → Type 0) → InputState → WriterState
    → Result (Unit {0}) ToolFault → InputState → WriterState → Type 0
WritesOfLines grammar whole front old before result new after =
    CallPost (λ done. ReadsAll grammar old new whole)
    (λ fault. IsOfLines fault × ReadsTo grammar old fault new whole × LinesAt old fault new)
    (IfSome old.text (λ text. front (in_text grammar old text).said) × (new.fault ≡ None)
    × (new.failures ≡ old.failures)) ⊥ before result after
