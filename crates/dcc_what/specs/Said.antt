-- The result of `what`.
use Rattle.std.specs.Prelude.{◌≡◌, Result, None, IfSome}
use Rattle.std.specs.Io.KnownBytes.{Appends}
use Rattle.dcc_io.specs.declared.fault.ToolFault.{ToolFault}
use Rattle.dcc_io.specs.AllBytes.{StopsAllBytes, bytes_of_text}
use Rattle.dcc_io.specs.Calls.{CallPost}
use Rattle.dcc_io.specs.InputState.{InputState, UsesAllLines}
use Rattle.dcc_io.specs.ReaderState.{IsAtEnd}
use Rattle.dcc_io.specs.WriterState.{WriterState}
use Rattle.dcc_io.specs.WrittenBytes.{AppendsFront}
use Rattle.dcc_what.specs.Sentences.{what_text}

-- the input was read from the state `old` to its end without an error, and is then in the state `new`
pub record ReadWhole (old new : InputState) : Type 0 where
  pub at_end : IsAtEnd new.text
  pub lines : UsesAllLines old new
  pub halves : new.halves ≡ old.halves
  pub fault : new.fault ≡ None
  pub failures : new.failures ≡ old.failures

-- If the result of `what` is Ok, the input was read to its end, and then the sentence about its bytes
-- was written. After an error of the input or a failed allocation, nothing was written. After a
-- failed write, a prefix of the sentence was written.
abbrev pub WritesSentence : InputState → WriterState → Result (Unit {0}) ToolFault → InputState → WriterState → Type 0
WritesSentence old before result new after =
    CallPost
    (λ done. ReadWhole old new
    × IfSome old.text (λ text. Appends before.contents after.contents (what_text (bytes_of_text text))))
    (λ fault. StopsAllBytes old fault new × (after ≡ before))
    (ReadWhole old new × IfSome old.text (λ text. AppendsFront before after (what_text (bytes_of_text text))))
    ((new.fault ≡ None) × (after ≡ before)) before result after
