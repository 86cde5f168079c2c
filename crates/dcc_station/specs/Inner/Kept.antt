-- The decision if an entry of a station stays after a command. The decision depends on the
-- instruction of the entry and on the instruction of the command.
use Rattle.std.specs.Prelude.{ℕ, Bool, true, false, not, ◌&&◌, ◌||◌, ◌==◌, nat_lt, ◌/◌, Option, None, Some}
use Rattle.std.specs.Prelude.{if◌then◌else◌}
use Rattle.dcc_packet.specs.Address.{same_address}
use Rattle.dcc_packet.specs.declared.address.Address.{Address}
use Rattle.dcc_packet.specs.declared.address.Address.TheVariants.{Broadcast}
use Rattle.dcc_packet.specs.declared.functions.GroupBits.{GroupBits}
use Rattle.dcc_packet.specs.declared.instruction.What.{What}
use Rattle.dcc_packet.specs.declared.instruction.What.TheVariants.{Reset, Speed28, Speed128, Functions}
use Rattle.dcc_packet.specs.declared.packet.Packet.{Packet}
use Rattle.dcc_packet.specs.declared.packet.Packet.TheVariants.{Loco}
use Rattle.dcc_regs.specs.Inner.GroupParts.{first_function}
use Rattle.dcc_regs.specs.Writes.{writes_mode}
use Rattle.dcc_station.specs.Commands.{is_refreshed}

-- true if a command keeps the direction `forward` of an entry. The first argument is the direction
-- that the command sets, and must equal `forward`. If the command sets no direction, the first
-- argument is `None`.
abbrev pub way_kept : Option Bool → Bool → Bool
way_kept None forward = true
way_kept (Some true) forward = forward
way_kept (Some false) forward = not forward

-- true if an entry stays after a command that sets the speed `set` and the direction `way`. The
-- number `set` has the form of the speed bits in an instruction with 128 steps. An entry that sets
-- the speed stays only if it sets this speed and this direction.
abbrev pub speed_kept : ℕ → Option Bool → What → Bool
speed_kept set way (Speed28 forward bits) = nat_lt set 2 && ((bits.bits / 2 == set) && way_kept way forward)
speed_kept set way (Speed128 forward bits) = (bits.bits == set) && way_kept way forward
speed_kept set way what = true

-- true if an entry stays after a reset: the entry is a stop forward, or it turns no function on
abbrev pub reset_kept : What → Bool
reset_kept (Speed28 forward bits) = forward && (bits.bits == 0)
reset_kept (Speed128 forward bits) = forward && (bits.bits == 0)
reset_kept (Functions bits) = bits.bits == 0
reset_kept what = true

-- true if an entry stays after a command with the function group `set`. An entry without a function
-- group stays, and an entry with another function group stays. If `one` is false, the command is
-- for all locomotives. Then an entry with the same group and the same bits stays too.
abbrev pub group_kept : Bool → GroupBits → What → Bool
group_kept one set (Functions bits) =
    not (first_function set.group == first_function bits.group) || (not one && (set.bits == bits.bits))
group_kept one set what = true

-- true if `entry` stays after a speed command of 28 steps to all decoders. The command has the
-- direction `forward` and the speed bits `bits`, and takes effect only if it is a stop.
abbrev pub stop_kept : Bool → ℕ → What → Bool
stop_kept forward bits entry =
    not (nat_lt bits 4) || speed_kept (bits / 2) (if bits == 0 || bits == 2 then Some forward else None) entry

-- true if `entry` stays after a command to all decoders
abbrev pub kept_by_all : What → What → Bool
kept_by_all Reset entry = reset_kept entry
kept_by_all (Speed28 forward bits) entry = stop_kept forward bits.bits entry
kept_by_all (Speed128 forward bits) entry = speed_kept bits.bits (Some forward) entry
kept_by_all (Functions bits) entry = group_kept false bits entry
kept_by_all what entry = true

-- true if `entry` stays after a command to its locomotive. If the entry and the command both set
-- the speed, this definition does not decide the case, and the result is `None`.
abbrev pub kept_by_one : What → What → Option Bool
kept_by_one Reset entry = Some (reset_kept entry)
kept_by_one (Functions bits) entry = Some (group_kept true bits entry)
kept_by_one (Speed28 forward bits) (Functions others) = Some true
kept_by_one (Speed28 forward bits) entry = None
kept_by_one (Speed128 forward bits) (Functions others) = Some true
kept_by_one (Speed128 forward bits) entry = None
kept_by_one what entry = Some (not (writes_mode what))

-- true if the instruction `entry` to the locomotive `own` stays after the instruction `what` to the
-- address `to`. The result is `None` if both instructions set the speed of one locomotive.
abbrev pub kept_of : Address → What → Address → What → Option Bool
kept_of Broadcast what own entry = Some (kept_by_all what entry)
kept_of to what own entry = if same_address own to then kept_by_one what entry else Some true

-- true if the instruction `entry` to the locomotive `own` stays after a command. The result is
-- `None` if the station does not refresh `entry`, or if `entry` and the command both set the speed
-- of one locomotive.
abbrev pub kept_in : Packet → Address → What → Option Bool
kept_in (Loco to what) own entry = if is_refreshed (Loco own entry) then kept_of to what own entry else None
kept_in command own entry = if is_refreshed (Loco own entry) then Some true else None
