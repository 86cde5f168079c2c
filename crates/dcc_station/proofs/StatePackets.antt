-- Binary states set nothing that an entry sets.
use Rattle.std.proofs.Common.{◌≡◌, ◌∙◌, sym, Bool, true, Some, None, arith}
use Rattle.dcc_packet.specs.declared.address.Address.{Address}
use Rattle.dcc_packet.specs.declared.instruction.What.TheVariants.{BinaryState}
use Rattle.dcc_packet.specs.declared.packet.Packet.{Packet}
use Rattle.dcc_packet.specs.declared.packet.Packet.TheVariants.{Loco}
use Rattle.dcc_packet.specs.declared.state.StateNumber.{StateNumber}
use Rattle.dcc_regs.specs.declared.register.SpeedMode.{SpeedMode}
use Rattle.dcc_regs.specs.declared.register.Register.{Register}
use Rattle.dcc_regs.specs.declared.register.Value.{Value}
use Rattle.dcc_regs.specs.States.{turned_states}
use Rattle.dcc_regs.specs.Inner.SetsByKind.{sets_by_kind as sets}
use Rattle.dcc_regs.proofs.OneTable.{same_table}
use Rattle.dcc_station.specs.Commands.{is_refreshed}
use Rattle.dcc_station.specs.States.{StatesConflictWithNoEntry}

-- an entry turns no state on or off
pub entry_tells_none : (e : Packet) → is_refreshed e ≡ true → turned_states e ≡ None
unfolding is_refreshed
entry_tells_none e h = grind arith

clash : (mode : SpeedMode) (to : Address) (n : StateNumber) (on : Bool) (e : Packet) (r : Register) (v w : Value)
    → is_refreshed e ≡ true → sets mode (Loco to (BinaryState n on)) r ≡ Some v → sets mode e r ≡ Some w → ⊥
clash mode to n on e r v w h f g = let none = entry_tells_none e h in grind arith

pub no_conflict : StatesConflictWithNoEntry
no_conflict to n on e h c =
    clash c.mode to n on e c.register c.one c.other h (sym (same_table c.mode (Loco to
    (BinaryState n on)) c.register) ∙ c.first_sets)
    (sym (same_table c.mode e c.register) ∙ c.second_sets)
