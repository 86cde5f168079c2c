-- The functions that a packet sets (RCN-212, NMRA S-9.2.1).
use Rattle.std.specs.Prelude.{ℕ, zero, Bool, false, ◌&&◌, ◌==◌, nat_lt, nat_le, ◌+◌, ◌-◌, ◌%◌, Option, None, Some}
use Rattle.std.specs.Prelude.{option_map, if◌then◌else◌}
use Rattle.dcc_packet.specs.declared.address.Address.TheVariants.{Broadcast}
use Rattle.dcc_packet.specs.declared.functions.GroupBits.{GroupBits}
use Rattle.dcc_packet.specs.declared.functions.Group.{Group}
use Rattle.dcc_packet.specs.declared.functions.Group.TheVariants.{F0, F5, F9, F13, F21, F29, F37, F45, F53, F61}
use Rattle.dcc_packet.specs.declared.instruction.What.TheVariants.{Reset, Speed28, Functions}
use Rattle.dcc_packet.specs.declared.packet.Packet.{Packet}
use Rattle.dcc_packet.specs.declared.packet.Packet.TheVariants.{Loco as ToLoco}
use Rattle.dcc_regs.specs.declared.register.SpeedMode.{SpeedMode}
use Rattle.dcc_regs.specs.declared.register.SpeedMode.TheVariants.{Steps14, Steps28}
use Rattle.dcc_packet.specs.Bits.{is_one}

-- the first function and the number of functions in the bits of a function group, from the lowest
-- bit on. F0, which is the fifth bit of group F0, does not count.
abbrev pub group_functions : Group → ℕ × ℕ
group_functions F0 = (1, 4)
group_functions F5 = (5, 4)
group_functions F9 = (9, 4)
group_functions F13 = (13, 8)
group_functions F21 = (21, 8)
group_functions F29 = (29, 8)
group_functions F37 = (37, 8)
group_functions F45 = (45, 8)
group_functions F53 = (53, 8)
group_functions F61 = (61, 8)

-- the place of function `n` in the bits of `group`, or `None` if `group` does not have this
-- function in speed mode `mode`. F0 has a place only in group F0 with 28 steps. With 14 steps F0 is
-- a bit of the speed instruction.
abbrev pub function_place : SpeedMode → Group → ℕ → Option ℕ
function_place Steps28 F0 zero = Some 4
function_place mode group n =
    let first : ℕ = (group_functions group).0 in
    if nat_le first n && nat_lt n (first + (group_functions group).1) then Some (n - first) else None

-- the value of function `n` in the function group `bits`, or `None` if the group does not have this
-- function
abbrev pub group_bit : SpeedMode → GroupBits → ℕ → Option Bool
group_bit mode bits n = option_map (is_one bits.bits) (function_place mode bits.group n)

-- the value to which a packet sets function `n`, true for on. The result is `None` if the packet
-- does not set this function. With 14 steps, bit C of a speed instruction is F0.
abbrev pub function_set : SpeedMode → Packet → ℕ → Option Bool
function_set mode (ToLoco to Reset) n = if nat_le n 68 then Some false else None
function_set mode (ToLoco Broadcast (Speed28 forward bits)) n = None
function_set Steps14 (ToLoco to (Speed28 forward bits)) n = if n == 0 then Some (bits.bits % 2 == 1) else None
function_set mode (ToLoco to (Functions bits)) n = group_bit mode bits n
function_set mode x n = None
