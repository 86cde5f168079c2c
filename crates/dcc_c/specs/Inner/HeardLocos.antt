-- A locomotive decoder that applies a packet that it hears.
use Rattle.std.specs.Prelude.{◌≡◌, ◌≤◌, ◌<◌, ◌^◌, ℕ, true, IfSome, unwrap_or}
use Rattle.dcc_packet.specs.declared.packet.Packet.{Packet}
use Rattle.dcc_packet.specs.Bits.{is_one}
use Rattle.dcc_regs.specs.declared.loco_registers.LocoRegisters.{LocoRegisters}
use Rattle.dcc_regs.specs.declared.loco_state.LocoState.{LocoState}
use Rattle.dcc_regs.specs.declared.register.SpeedMode.{SpeedMode}
use Rattle.dcc_regs.specs.FunctionBits.{function_set}
use Rattle.dcc_regs.specs.Heard.{hears}
use Rattle.dcc_regs.specs.Loco.{is_speed}
use Rattle.dcc_regs.specs.LocoState.{is_state, loco_map, loco_who}
use Rattle.dcc_regs.specs.Speeds.{direction_set, speed_set}
use Rattle.dcc_regs.specs.States.{state_set}
use Rattle.dcc_c.specs.declared.loco_numbers.DccLoco.{DccLoco}
use Rattle.dcc_c.specs.declared.loco_numbers.DccLocoRegisters.{DccLocoRegisters}
use Rattle.dcc_c.specs.Applied.{HasApplied}
use Rattle.dcc_c.specs.Locos.{loco_numbers, register_numbers}

-- The C structure of a locomotive decoder changes from `old` to `new`. If `old` is the structure of
-- a state, and a decoder in this state hears `packet`, then `new` is the structure of the state
-- after `packet`.
abbrev pub AppliesHeard : Packet → DccLoco → DccLoco → Type 0
AppliesHeard packet old new =
    (before : LocoState) → is_state before ≡ true → hears (loco_who before) packet ≡ true → old ≡ loco_numbers before
    → (after : LocoState) × (is_state after ≡ true) × (new ≡ loco_numbers after)
    × HasApplied packet (loco_who before) (loco_map before) (loco_who after) (loco_map after)

-- the registers `before` with the speed and the direction that `packet` sets in speed mode `mode`,
-- and with the functions `functions` and the binary states `states`
abbrev pub registers_with : SpeedMode → Packet → LocoRegisters → ℕ → ℕ → LocoRegisters
registers_with mode packet before functions states = record before {
  speed = unwrap_or (speed_set mode packet) before.speed;
  forward = unwrap_or (direction_set packet) before.forward;
  functions = functions;
  states = states;
}

-- `numbers` is the C structure of the registers `before` with the values that `packet` sets in
-- speed mode `mode`. The pending write is that of `before`.
pub record AreSet (mode : SpeedMode) (packet : Packet) (before : LocoRegisters) (numbers : DccLocoRegisters) : Type 0
  where
    pub functions : ℕ
    pub states : ℕ
    pub is : numbers ≡ register_numbers (registers_with mode packet before functions states)
    pub small : functions < 2 ^ 69
    pub each_function : (n : ℕ) → n ≤ 68
        → is_one functions n ≡ unwrap_or (function_set mode packet n) (is_one before.functions n)
    pub each_state : (n : ℕ) → is_one states n ≡ unwrap_or (state_set packet n) (is_one before.states n)
    pub step : IfSome (speed_set mode packet) (λ speed. is_speed speed ≡ true)
