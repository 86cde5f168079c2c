-- How an input is read to its end.
use Rattle.std.specs.Prelude.{◌≡◌, ℕ, ◌-◌, List, None, Some, length, take, IfSome}
use Rattle.dcc_io.specs.declared.fault.KeptFault.{KeptFault}
use Rattle.dcc_io.specs.declared.fault.KeptFault.TheVariants as kept
use Rattle.dcc_io.specs.declared.fault.ToolFault.{ToolFault}
use Rattle.dcc_io.specs.Faults.{ErrorPost}
use Rattle.dcc_io.specs.ReaderState.{IsAtEnd}
use Rattle.dcc_io.specs.InputState.{InputState, UsesAllLines}
use Rattle.dcc_io.specs.Took.{FailsBehind, OverflowsBehind, LinesAt}

-- the bytes of `text` before its last byte, which is the line feed that an input appends
abbrev pub bytes_of_text : List ℕ → List ℕ
bytes_of_text text = take (length text - 1) text

-- between the states `old` and `new`, the input was read to its end without an error, and `bytes`
-- are its bytes
pub record GivesAllBytes (old : InputState) (bytes : List ℕ) (new : InputState) : Type 0 where
  pub bytes_are : IfSome old.text (λ text. bytes ≡ bytes_of_text text)
  pub at_end : IsAtEnd new.text
  pub lines : UsesAllLines old new
  pub halves : new.halves ≡ old.halves
  pub fault : new.fault ≡ None
  pub failures : new.failures ≡ old.failures

-- the input was read up to the error `fault`, which is U4 or U7, and stores it
abbrev pub StopsAllBytes : InputState → KeptFault → InputState → Type 0
StopsAllBytes old kept.Read new =
    FailsBehind (λ used. Unit {0}) old new × (new.fault ≡ Some kept.Read) × LinesAt old kept.Read new
StopsAllBytes old kept.TooMuch new =
    OverflowsBehind (λ used. Unit {0}) old new × (new.fault ≡ Some kept.TooMuch) × LinesAt old kept.TooMuch new
StopsAllBytes old fault new = ⊥

-- the input was not read to its end: it stores the error `fault`, or an allocation failed and it
-- stores no error
abbrev pub LacksBytes : InputState → ToolFault → InputState → Type 0
LacksBytes old fault new =
    ErrorPost (λ kept. StopsAllBytes old kept new) ⊥ ((new.fault ≡ None) × (new.failures ≡ old.failures)) fault
