-- How an input reads all packets of two captures.
use Rattle.std.specs.Prelude.{◌≡◌, ◌⊎◌, ℕ, List, [], ◌++◌, None, Some, IfSome, IsSomeAnd}
use Rattle.dcc_packet.specs.declared.packet.Packet.{Packet}
use Rattle.dcc_order.specs.Hearing.{ArePackets}
use Rattle.dcc_io.specs.declared.fault.KeptFault.{KeptFault}
use Rattle.dcc_io.specs.declared.fault.KeptFault.TheVariants as kept
use Rattle.dcc_io.specs.declared.fault.ToolFault.{ToolFault}
use Rattle.dcc_io.specs.Faults.{ErrorPost}
use Rattle.dcc_io.specs.Failures.{HasRisen}
use Rattle.dcc_io.specs.ReaderState.{IsAtEnd}
use Rattle.dcc_io.specs.InputState.{InputState, UsesAllLines, ReadHasFailure}
use Rattle.dcc_capture.specs.Capture.{RunsOver}
use Rattle.dcc_capture.specs.BothCaptures.{Both, both_from, in_limit}
use Rattle.dcc_capture.specs.FirstRead.{EndsFirst, FirstLinesAt}

-- both captures of an `input` with the text `text`, up to its limits
abbrev pub both_in : InputState → List ℕ → Both
both_in input text = in_limit (both_from 0 input) input text

abbrev pub both_before_failure : InputState → List ℕ → Both
both_before_failure input used = both_from 0 input 0 used (Some kept.Read)

-- the first capture and the line `---` were read without an error, between the states `old` and
-- `new` of the input. `packets` are the packets in the half-bits of this capture.
pub record GatheredFirst (old : InputState) (packets : List Packet) (new : InputState) : Type 0 where
  pub none_kept : old.fault ≡ None
  pub halves : List ℕ
  pub hold : ArePackets packets halves
  pub ends : EndsFirst 0 old halves new

-- the two captures `both` have no error, and `packets` and `others` are the packets in their
-- half-bits
pub record HoldBoth (packets others : List Packet) (both : Both) : Type 0 where
  pub none : both.fault ≡ None
  pub first : ArePackets packets both.first
  pub second : ArePackets others both.second

-- both captures were read to their ends without an error, between the states `old` and `new` of the
-- input. `packets` and `others` are the packets in their half-bits.
pub record GatheredBoth (old : InputState) (packets others : List Packet) (new : InputState) : Type 0 where
  pub none_kept : old.fault ≡ None
  pub hold : IfSome old.text (λ text. HoldBoth packets others (both_in old text))
  pub failures : new.failures ≡ old.failures
  pub at_end : IsAtEnd new.text
  pub lines : UsesAllLines old new
  pub fault : new.fault ≡ None

-- both captures were read up to an error. If this error is U4, a read failed. Any other error is
-- the error of the two captures in the text of `old`.
abbrev pub ReadsBothUpTo : InputState → KeptFault → InputState → Type 0
ReadsBothUpTo old kept.Read new = HasRisen old.failures new.failures × (new.ahead ≡ [])
    × IfSome old.text
    (λ text. IsSomeAnd new.text
    (λ rest. (used : List ℕ) × (text ≡ used ++ rest) × ((both_before_failure old used).fault ≡ Some kept.Read)))
ReadsBothUpTo old (kept.Number line) new =
    (new.failures ≡ old.failures) × IfSome old.text (λ text. (both_in old text).fault ≡ Some (kept.Number line))
ReadsBothUpTo old (kept.Line line fault) new =
    (new.failures ≡ old.failures) × IfSome old.text (λ text. (both_in old text).fault ≡ Some (kept.Line line fault))
ReadsBothUpTo old kept.TooMuch new =
    (new.failures ≡ old.failures) × IfSome old.text (λ text. (both_in old text).fault ≡ Some kept.TooMuch)

-- the input read the first capture and the line `---`, and then a part of the second capture. The
-- next run of the second capture has more half-bits than the limit still allows.
pub record SecondRunsOver (old new : InputState) : Type 0 where
  pub halves : List ℕ
  pub mid : InputState
  pub ends : EndsFirst 0 old halves mid
  pub over : RunsOver mid new

-- the input has read the lines that `FirstLinesAt` gives for an error of one of the two captures.
-- If a run of the second capture exceeds the limit, the input has read the lines up to this run.
abbrev pub BothLinesAt : InputState → KeptFault → InputState → Type 0
BothLinesAt old kept.TooMuch new = FirstLinesAt 0 old kept.TooMuch new ⊎ SecondRunsOver old new
BothLinesAt old fault new = FirstLinesAt 0 old fault new

-- `old` stores the error `fault`, or both captures were read up to this error, which `new` stores
abbrev pub StopsBothAt : InputState → KeptFault → InputState → Type 0
StopsBothAt old fault new =
    ((old.fault ≡ Some fault) × ReadHasFailure old.fault old.failures × (new ≡ old))
    ⊎ ((old.fault ≡ None) × (new.fault ≡ Some fault) × ReadsBothUpTo old fault new × BothLinesAt old fault new)

-- the packets of both captures could not be read: a capture has the error `fault`, or `fault` is U6
-- and an allocation failed
abbrev pub BothFail : InputState → ToolFault → InputState → Type 0
BothFail old fault new =
    ErrorPost (λ kept. StopsBothAt old kept new) ⊥ ((old.fault ≡ None) × (new.fault ≡ None)) fault
