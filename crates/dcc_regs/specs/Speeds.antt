-- The speed and the direction that a packet sets (RCN-212, NMRA S-9.2.1).
use Rattle.std.specs.Prelude.{ℕ, Bool, true, ◌||◌, ◌==◌, nat_lt, ◌-◌, ◌/◌, Option, None, Some, if◌then◌else◌}
use Rattle.dcc_packet.specs.declared.address.Address.TheVariants.{Broadcast}
use Rattle.dcc_packet.specs.declared.instruction.What.TheVariants.{Reset, Speed28, Speed128}
use Rattle.dcc_packet.specs.declared.packet.Packet.{Packet}
use Rattle.dcc_packet.specs.declared.packet.Packet.TheVariants.{Loco as ToLoco}
use Rattle.dcc_regs.specs.declared.register.SpeedMode.{SpeedMode}
use Rattle.dcc_regs.specs.declared.register.SpeedMode.TheVariants.{Steps14, Steps28}
use Rattle.dcc_regs.specs.declared.register.Speed.{Speed}
use Rattle.dcc_regs.specs.declared.register.Speed.TheVariants.{Stop, Emergency, Step14, Step28, Step126}

-- the speed of a speed instruction with 28 steps and the five speed bits `bits`
abbrev pub speed_of_28 : ℕ → Speed
speed_of_28 bits = if nat_lt bits 2 then Stop else if nat_lt bits 4 then Emergency else Step28 (bits - 3)

-- the speed of a speed instruction with 14 steps and the five bits `bits`. The lowest bit is F0.
abbrev pub speed_of_14 : ℕ → Speed
speed_of_14 bits = if bits / 2 == 0 then Stop else if bits / 2 == 1 then Emergency else Step14 (bits / 2 - 1)

-- the speed of a speed instruction with 128 steps and the seven speed bits `bits`. The values 0 and
-- 1 are stops, so that 126 steps remain.
abbrev pub speed_of_126 : ℕ → Speed
speed_of_126 bits = if bits == 0 then Stop else if bits == 1 then Emergency else Step126 (bits - 1)

-- the stop that a broadcast for 28 or 14 steps means, if its five speed bits are `bits`. A
-- broadcast with a speed step sets no speed, and the result is `None`.
abbrev pub stop_of : ℕ → Option Speed
stop_of bits = if nat_lt bits 2 then Some Stop else if nat_lt bits 4 then Some Emergency else None

-- the speed to which a packet sets a locomotive decoder in speed mode `mode`, or `None` if it sets
-- no speed
abbrev pub speed_set : SpeedMode → Packet → Option Speed
speed_set mode (ToLoco to Reset) = Some Stop
speed_set mode (ToLoco Broadcast (Speed28 forward bits)) = stop_of bits.bits
speed_set Steps28 (ToLoco to (Speed28 forward bits)) = Some (speed_of_28 bits.bits)
speed_set Steps14 (ToLoco to (Speed28 forward bits)) = Some (speed_of_14 bits.bits)
speed_set mode (ToLoco to (Speed128 forward bits)) = Some (speed_of_126 bits.bits)
speed_set mode x = None

-- the direction that a packet sets, true for forward, or `None` if it sets no direction. A
-- broadcast stop sets the direction only if bit C is zero (values 0 and 2).
abbrev pub direction_set : Packet → Option Bool
direction_set (ToLoco to Reset) = Some true
direction_set (ToLoco Broadcast (Speed28 forward bits)) =
    if bits.bits == 0 || bits.bits == 2 then Some forward else None
direction_set (ToLoco to (Speed28 forward bits)) = Some forward
direction_set (ToLoco to (Speed128 forward bits)) = Some forward
direction_set x = None
