-- The packets of a capture, which are read one after the other.
use Rattle.std.specs.Prelude.{◌≡◌, ◌≤◌, ◌++◌, ◌∷◌, [], ℕ, List, Option, Some, None, Result, Ok, Err, length}
use Rattle.dcc_wire.specs.declared.framer.Framer.{Framer}
use Rattle.dcc_wire.specs.Framing.{StandsFor}
use Rattle.dcc_packet.specs.declared.packet.Packet.{Packet}
use Rattle.dcc_order.specs.Hearing.{ArePackets}
use Rattle.dcc_io.specs.declared.fault.KeptFault.{KeptFault}
use Rattle.dcc_capture.specs.Capture.{GaveHalves}
use Rattle.dcc_io.specs.Faults.{as_tool_fault}
use Rattle.dcc_io.specs.InputState.{InputState}
use Rattle.dcc_listen.specs.Gathered.{Gathered, GatherFails}

-- `packets` are the packets in `halves`, and `framer` represents these half-bits
pub record HoldsPackets (framer : Framer) (packets : List Packet) (halves : List ℕ) : Type 0 where
  pub stands : StandsFor framer halves
  pub hold : ArePackets packets halves
  pub few : length packets ≤ length halves

-- half-bits were read between the states `start` and `now`. A framer, which is in state `framer`, has
-- taken these half-bits except for their suffix `pending`. `packets` are the packets in the half-bits
-- that the framer has taken.
pub record Gathering (start now : InputState) (pending : List ℕ) (framer : Framer) (packets : List Packet)
    : Type 0 where
  pub halves : List ℕ
  pub gave : GaveHalves start (halves ++ pending) now
  pub holds : HoldsPackets framer packets halves

-- the packets `packets` of the capture were read. The result is the next packet, or `None` at the
-- end of the capture, or the error of the capture.
abbrev pub ReadsPacket : InputState → List Packet → Result (Option Packet) KeptFault → InputState → List ℕ → Framer
    → Type 0
ReadsPacket start packets (Ok (Some p)) now pending framer = Gathering start now pending framer (packets ++ p ∷ [])
ReadsPacket start packets (Ok None) now pending framer = Gathered start packets now
ReadsPacket start packets (Err fault) now pending framer = GatherFails start (as_tool_fault fault) now

-- a part of a capture, or a whole capture, was read between the states `old` and `new` without an
-- error
pub record ReadsOn (old new : InputState) : Type 0 where
  pub none_kept : old.fault ≡ None
  pub fault : new.fault ≡ None
  pub failures : new.failures ≡ old.failures
