-- A line that a text must have.
use Rattle.std.specs.Prelude.{◌≡◌, ◌⊎◌, [], Some, Result, Ok, Err, IfSome}
use Rattle.dcc_packet.specs.declared.fault.PacketFault.TheVariants as faults
use Rattle.dcc_io.specs.declared.text_line.TextLine.{TextLine}
use Rattle.dcc_io.specs.declared.fault.KeptFault.{KeptFault}
use Rattle.dcc_io.specs.declared.fault.KeptFault.TheVariants.{Number, Line, Read, TooMuch}
use Rattle.dcc_io.specs.InputState.{InputState}
use Rattle.dcc_io.specs.NextLine.{ReadsLine, IsBadAt, FailsInLine, OverflowsInLine}
use Rattle.dcc_saved.specs.TextRead.{UsesThroughLine}

-- the next line of `old` is invalid, or the text of `old` has no further line
pub record MissesLine (old new : InputState) : Type 0 where
  pub text : IfSome old.text (λ text. IsBadAt old text ⊎ (text ≡ []))
  pub lines : UsesThroughLine old old.place.line new
  pub fault : new.fault ≡ Some (Line old.place.line faults.Word)
  pub failures : new.failures ≡ old.failures

-- the result is the next line of `old`. If this line is missing or invalid, the result is its
-- error.
abbrev pub TakesLine : InputState → Result TextLine KeptFault → InputState → Type 0
TakesLine old (Ok line) new = ReadsLine old line.number line.text.bytes new
TakesLine old (Err (Line number fault)) new = (fault ≡ faults.Word) × (number ≡ old.place.line) × MissesLine old new
TakesLine old (Err Read) new = FailsInLine old new
TakesLine old (Err TooMuch) new = OverflowsInLine old new
TakesLine old (Err (Number line)) new = ⊥
