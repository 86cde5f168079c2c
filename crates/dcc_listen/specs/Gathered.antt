-- How an input reads all packets of a capture.
use Rattle.std.specs.Prelude.{◌≡◌, ◌⊎◌, List, None, Some}
use Rattle.dcc_packet.specs.declared.packet.Packet.{Packet}
use Rattle.dcc_order.specs.Hearing.{ArePackets}
use Rattle.dcc_io.specs.declared.fault.KeptFault.{KeptFault}
use Rattle.dcc_io.specs.declared.fault.ToolFault.{ToolFault}
use Rattle.dcc_io.specs.Faults.{ErrorPost}
use Rattle.dcc_io.specs.ReaderState.{IsAtEnd}
use Rattle.dcc_io.specs.InputState.{InputState, UsesAllLines, ReadHasFailure}
use Rattle.dcc_io.specs.Items.{ReadsUpTo}
use Rattle.dcc_capture.specs.Capture.{captures, CaptureLinesAt}

-- a capture was read to its end without an error, between the states `old` and `new` of its input.
-- `packets` are the packets in the half-bits of the capture.
pub record Gathered (old : InputState) (packets : List Packet) (new : InputState) : Type 0 where
  pub none_kept : old.fault ≡ None
  pub hold : ReadsUpTo captures old None new (λ halves. ArePackets packets halves)
  pub at_end : IsAtEnd new.text
  pub lines : UsesAllLines old new
  pub fault : new.fault ≡ None

-- `old` stores the error `fault`, or the capture was read up to this error, which `new` stores
abbrev pub StopsGathering : InputState → KeptFault → InputState → Type 0
StopsGathering old fault new =
    ((old.fault ≡ Some fault) × ReadHasFailure old.fault old.failures × (new ≡ old))
    ⊎ ((old.fault ≡ None) × (new.fault ≡ Some fault) × ReadsUpTo captures old (Some fault) new (λ halves. Unit {0})
    × CaptureLinesAt old fault new)

-- the packets of a capture could not be read: the capture has the error `fault`, or `fault` is U6
-- and an allocation failed
abbrev pub GatherFails : InputState → ToolFault → InputState → Type 0
GatherFails old fault new =
    ErrorPost (λ kept. StopsGathering old kept new) ⊥ ((old.fault ≡ None) × (new.fault ≡ None)) fault
