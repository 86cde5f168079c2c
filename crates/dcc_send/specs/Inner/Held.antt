-- Buffered output lines.
use Rattle.std.specs.Prelude.{◌≡◌, ℕ, ◌++◌, List, [], Option, None, Some, Result, Ok, Err}
use Rattle.std.specs.Io.KnownBytes.{Appends}
use Rattle.dcc_station.specs.Sending as sending
use Rattle.dcc_send.specs.declared.encoding.Encode.{Encode}
use Rattle.dcc_io.specs.declared.stream.Failed.{Failed}
use Rattle.dcc_io.specs.declared.fault.KeptFault.{KeptFault}
use Rattle.dcc_io.specs.Failures.{HasRisen}
use Rattle.dcc_io.specs.InputState.{InputState}
use Rattle.dcc_io.specs.StationLines.{Asked}
use Rattle.dcc_io.specs.WriterState.{WriterState}
use Rattle.dcc_io.specs.WrittenBytes.{AppendsFront}
use Rattle.dcc_io.specs.Held.{Holds}
use Rattle.dcc_send.specs.StationEncoded.{AnswersAll}

-- all buffered bytes `held` were written without a failure, and the buffer `left` is empty
abbrev pub WritesOut : WriterState → List ℕ → List ℕ → WriterState → Type 0
WritesOut before held left after =
    (left ≡ []) × Appends before.contents after.contents held × (after.failures ≡ before.failures)

-- If the result is an item of the input, a prefix of the buffered bytes `held` was written, and the
-- suffix `left` is still buffered. At the end of the input, or at an error of the input, all bytes
-- `held` were written. If a write failed or wrote no byte, the input read no item.
abbrev pub TakesNext : {C : Type 0} → (InputState → Result (Option C) KeptFault → InputState → Type 0) → InputState
    → WriterState → List ℕ → Result (Result (Option C) KeptFault) Failed → InputState → List ℕ → WriterState → Type 0
TakesNext answers old before held (Ok (Ok (Some next))) new left after =
    answers old (Ok (Some next)) new × Holds before after held left × (after.failures ≡ before.failures)
TakesNext answers old before held (Ok (Ok None)) new left after =
    answers old (Ok None) new × WritesOut before held left after
TakesNext answers old before held (Ok (Err fault)) new left after =
    answers old (Err fault) new × WritesOut before held left after
TakesNext answers old before held (Err failed) new left after =
    (new ≡ old) × AppendsFront before after held × HasRisen before.failures after.failures

-- a station in state `s` that gets the requests `items` goes to state `new`. Let `held` and then
-- the answers of the station form one list of bytes. This list was written except for its suffix
-- `left`, which is buffered.
pub record HoldsAnswers (how : Encode) (s : sending.Sending) (items : List Asked) (new : sending.Sending)
    (before after : WriterState) (held left : List ℕ) : Type 0 where
  pub bytes : List ℕ
  pub answers : AnswersAll how s items bytes new
  pub holds : Holds before after (held ++ bytes) left

-- a station in state `s` answers the first requests of `items`. Let `held` and then these answers
-- form one list of bytes. A prefix of this list was written.
pub record HeldFront (how : Encode) (s : sending.Sending) (items : List Asked) (before after : WriterState)
    (held : List ℕ) : Type 0 where
  pub first : List Asked
  pub later : List Asked
  pub whole : items ≡ first ++ later
  pub bytes : List ℕ
  pub new : sending.Sending
  pub answers : AnswersAll how s first bytes new
  pub written : AppendsFront before after (held ++ bytes)

-- let `held` and then the answers of a station in state `s` to `items` form one list of bytes. If
-- the result is Ok, this list was written except for its suffix `left`, which is buffered. If the
-- result is an error, a write failed or wrote no byte, and a prefix of the list was written.
abbrev pub HoldsAnswersOrFails : Encode → sending.Sending → List Asked → WriterState → List ℕ
    → Result (Unit {0}) Failed → sending.Sending → List ℕ → WriterState → Type 0
HoldsAnswersOrFails how s items before held (Ok done) new left after =
    HoldsAnswers how s items new before after held left × (after.failures ≡ before.failures)
HoldsAnswersOrFails how s items before held (Err failed) new left after =
    HeldFront how s items before after held × HasRisen before.failures after.failures
