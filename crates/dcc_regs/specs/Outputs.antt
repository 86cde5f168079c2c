-- The registers of accessory decoders that a packet sets: outputs, positions of pairs of outputs,
-- and aspects (RCN-213).
use Rattle.std.specs.Prelude.{ℕ, Bool, true, false, ◌&&◌, ◌||◌, ◌==◌, nat_le, ◌/◌, ◌%◌, Option, None, Some}
use Rattle.std.specs.Prelude.{if◌then◌else◌}
use Rattle.dcc_packet.specs.declared.address.Address.{Address}
use Rattle.dcc_packet.specs.declared.address.Address.TheVariants.{Broadcast}
use Rattle.dcc_packet.specs.declared.instruction.What.{What}
use Rattle.dcc_packet.specs.declared.instruction.What.TheVariants.{Reset}
use Rattle.dcc_packet.specs.declared.packet.Packet.{Packet}
use Rattle.dcc_packet.specs.declared.packet.Packet.TheVariants.{Loco as ToLoco, Accessory, Signal}
use Rattle.dcc_regs.specs.declared.register.Value.{Value}
use Rattle.dcc_regs.specs.declared.register.Value.TheVariants.{Number}

-- true if an instruction is the reset to the broadcast address, which turns all outputs off.
-- Accessory decoders hear no other instruction to locomotive decoders.
abbrev pub is_full_reset : Address → What → Bool
is_full_reset Broadcast Reset = true
is_full_reset x what = false

-- the value to which a packet sets output `n`, true for on. If the packet does not set output `n`,
-- the result is `None`.
abbrev pub out_set : Packet → ℕ → Option Bool
out_set (ToLoco to what) n = if is_full_reset to what && nat_le n 7 then Some false else None
out_set (Accessory board output on) n = if n == output.number then Some on else None
out_set x n = None

-- the side to which a packet sets pair `n` of outputs, true for side 1. If the packet does not set
-- pair `n`, the result is `None`. Only a packet that turns an output on sets a pair: it sets the
-- pair of this output to the side of this output.
abbrev pub position_set : Packet → ℕ → Option Bool
position_set (Accessory board output true) n = if n == output.number / 2 then Some (output.number % 2 == 1) else None
position_set x n = None

-- the value of a register with the side of a pair of outputs: 1 if `one` is true, otherwise 0
abbrev pub side : Bool → Value
side one = Number (if one then 1 else 0)

-- the aspect to which a heard packet sets signal `n` of an accessory decoder. If the packet does
-- not set signal `n`, the result is `None`.
abbrev pub aspect_set : Packet → ℕ → Option ℕ
aspect_set (Signal address aspect) n =
    if (address.number == 2047 && nat_le n 3) || n == address.number % 4 then Some aspect else None
aspect_set x n = None
