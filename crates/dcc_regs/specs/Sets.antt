-- The plain registers that a packet sets, each to a value (RCN-212, RCN-213; NMRA S-9.2.1). All
-- registers except the CV bits and Pending are plain.
use Rattle.std.specs.Prelude.{◌≡◌, ◌==◌, ◌||◌, ◌&&◌, ◌/◌, ◌%◌, nat_le, true, false, Option, None, Some}
use Rattle.std.specs.Prelude.{option_map, if◌then◌else◌}
use Rattle.dcc_packet.specs.declared.address.Address.TheVariants.{Broadcast}
use Rattle.dcc_packet.specs.declared.instruction.What.TheVariants.{Reset, Speed28, Speed128, Functions, BinaryState}
use Rattle.dcc_packet.specs.declared.packet.Packet.{Packet}
use Rattle.dcc_packet.specs.declared.packet.Packet.TheVariants.{Loco as ToLoco, Accessory, Signal}
use Rattle.dcc_regs.specs.declared.register.SpeedMode.{SpeedMode}
use Rattle.dcc_regs.specs.declared.register.SpeedMode.TheVariants.{Steps14, Steps28}
use Rattle.dcc_regs.specs.declared.register.Speed.TheVariants.{Stop}
use Rattle.dcc_regs.specs.declared.register.Register.{Register}
use Rattle.dcc_regs.specs.declared.register.Register.TheVariants.{Speed as SpeedRegister, Direction, Function}
use Rattle.dcc_regs.specs.declared.register.Register.TheVariants.{State as StateRegister, Out, Position, Aspect}
use Rattle.dcc_regs.specs.declared.register.Value.{Value}
use Rattle.dcc_regs.specs.declared.register.Value.TheVariants.{Speed as SpeedValue, Forward, Flag, Number}
use Rattle.dcc_regs.specs.FunctionBits.{group_bit}
use Rattle.dcc_regs.specs.Speeds.{speed_of_14, speed_of_28, speed_of_126, stop_of}

-- the value to which a packet sets a plain register. The decoder has the speed mode `mode`. If the
-- packet does not set the register, the result is `None`.
abbrev pub sets : SpeedMode → Packet → Register → Option Value
-- a reset
sets mode (ToLoco to Reset) SpeedRegister = Some (SpeedValue Stop)
sets mode (ToLoco to Reset) Direction = Some (Forward true)
sets mode (ToLoco to Reset) (Function n) = if nat_le n 68 then Some (Flag false) else None
sets mode (ToLoco to Reset) (StateRegister n) = if nat_le 1 n && nat_le n 127 then Some (Flag false) else None
sets mode (ToLoco Broadcast Reset) (Out n) = if nat_le n 7 then Some (Flag false) else None
-- a stop of all locomotives: it sets the direction only if bit C is zero (values 0 and 2)
sets mode (ToLoco Broadcast (Speed28 forward bits)) SpeedRegister = option_map SpeedValue (stop_of bits.bits)
sets mode (ToLoco Broadcast (Speed28 forward bits)) Direction =
    if bits.bits == 0 || bits.bits == 2 then Some (Forward forward) else None
sets mode (ToLoco Broadcast (Speed28 forward bits)) r = None
-- a speed. With 14 steps, bit C is F0.
sets Steps28 (ToLoco to (Speed28 forward bits)) SpeedRegister = Some (SpeedValue (speed_of_28 bits.bits))
sets Steps14 (ToLoco to (Speed28 forward bits)) SpeedRegister = Some (SpeedValue (speed_of_14 bits.bits))
sets Steps14 (ToLoco to (Speed28 forward bits)) (Function n) = if n == 0 then Some (Flag (bits.bits % 2 == 1)) else None
sets mode (ToLoco to (Speed28 forward bits)) Direction = Some (Forward forward)
sets mode (ToLoco to (Speed128 forward bits)) SpeedRegister = Some (SpeedValue (speed_of_126 bits.bits))
sets mode (ToLoco to (Speed128 forward bits)) Direction = Some (Forward forward)
-- functions and binary states. State 0 stands for the states 1 to 127.
sets mode (ToLoco to (Functions bits)) (Function n) = option_map Flag (group_bit mode bits n)
sets mode (ToLoco to (BinaryState state on)) (StateRegister n) =
    if (nat_le 1 n && nat_le n 127) && (state.number == 0 || n == state.number) then Some (Flag on) else None
-- outputs, pairs of outputs and signals. Pair n has the outputs 2n (position 0) and 2n + 1 (position
-- 1). Signal 2047 stands for all signals.
sets mode (Accessory board output on) (Out n) = if n == output.number then Some (Flag on) else None
sets mode (Accessory board output true) (Position n) =
    if n == output.number / 2 then Some (Number (output.number % 2)) else None
sets mode (Signal address aspect) (Aspect n) =
    if (address.number == 2047 && nat_le n 3) || n == address.number % 4 then Some (Number aspect) else None
sets mode p r = None

-- packet `p` sets no plain register, in both speed modes
abbrev pub SetsNothing : Packet → Type 0
SetsNothing p = (mode : SpeedMode) (register : Register) → sets mode p register ≡ None
