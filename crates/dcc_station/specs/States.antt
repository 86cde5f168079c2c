-- Theorems about binary states and the entries of a station.
use Rattle.std.specs.Prelude.{Bool, true, false, ◌≡◌}
use Rattle.dcc_packet.specs.declared.address.Address.{Address}
use Rattle.dcc_packet.specs.declared.instruction.What.TheVariants.{BinaryState}
use Rattle.dcc_packet.specs.declared.packet.Packet.{Packet}
use Rattle.dcc_packet.specs.declared.packet.Packet.TheVariants.{Loco}
use Rattle.dcc_packet.specs.declared.state.StateNumber.{StateNumber}
use Rattle.dcc_regs.specs.Conflict.{Conflict}
use Rattle.dcc_station.specs.Commands.{is_refreshed}

-- a station never refreshes a packet that sets a binary state
abbrev pub StatesAreNoEntries : Type 0
StatesAreNoEntries =
    (to : Address) (number : StateNumber) (on : Bool) → is_refreshed (Loco to (BinaryState number on)) ≡ false

-- a packet that sets a binary state conflicts with no packet that a station refreshes
abbrev pub StatesConflictWithNoEntry : Type 0
StatesConflictWithNoEntry =
    (to : Address) (number : StateNumber) (on : Bool) (entry : Packet) → is_refreshed entry ≡ true
    → ¬ Conflict (Loco to (BinaryState number on)) entry
