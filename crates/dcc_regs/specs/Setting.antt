-- The registers that a heard packet sets, depending on the registers before the packet.
use Rattle.std.specs.Prelude.{ℕ, Option, None, Some, option_map, unwrap_or, if◌then◌else◌}
use Rattle.dcc_packet.specs.declared.packet.Packet.{Packet}
use Rattle.dcc_regs.specs.declared.register.SpeedMode.{SpeedMode}
use Rattle.dcc_regs.specs.declared.register.Register.{Register}
use Rattle.dcc_regs.specs.declared.register.Register.TheVariants.{Speed as SpeedRegister, Direction, Function}
use Rattle.dcc_regs.specs.declared.register.Register.TheVariants.{State as StateRegister, CvBit}
use Rattle.dcc_regs.specs.declared.register.Register.TheVariants.{Pending as PendingRegister, Out, Position, Aspect}
use Rattle.dcc_regs.specs.declared.register.Value.{Value}
use Rattle.dcc_regs.specs.declared.register.Value.TheVariants.{Flag, Pending as PendingValue}
use Rattle.dcc_regs.specs.Sets.{sets}
use Rattle.dcc_regs.specs.Result.{RegisterMap, is_effective, mode_of}
use Rattle.dcc_regs.specs.Writes.{bit_set, is_own_write}

-- the speed mode of a decoder with the registers `m`
abbrev pub mode_in : RegisterMap → SpeedMode
mode_in m = mode_of (m (CvBit 29 1))

-- the pending write after a decoder has heard packet `p`. The result is `p` if `p` is an own write,
-- otherwise `None`.
abbrev pub left_pending : Packet → Option Packet
left_pending p = if is_own_write p then Some p else None

-- the value to which `p` sets bit `place` of CV `cv`, if the register Pending has the value `held`.
-- The result is `None` if `p` does not write this bit, or if the write does not take effect.
abbrev pub effective_set : Option Value → Packet → ℕ → ℕ → Option Value
effective_set held p cv place = if is_effective held p then option_map Flag (bit_set p cv place) else None

-- the value to which a heard packet `p` sets a register, if the decoder has the registers `m`
-- before `p`. If `p` does not set this register, the result is `None`.
abbrev pub set_from : RegisterMap → Packet → Register → Option Value
set_from m p PendingRegister = Some (PendingValue (left_pending p))
set_from m p (CvBit cv place) = effective_set (m PendingRegister) p cv place
set_from m p SpeedRegister = sets (mode_in m) p SpeedRegister
set_from m p Direction = sets (mode_in m) p Direction
set_from m p (Function n) = sets (mode_in m) p (Function n)
set_from m p (StateRegister n) = sets (mode_in m) p (StateRegister n)
set_from m p (Out n) = sets (mode_in m) p (Out n)
set_from m p (Position n) = sets (mode_in m) p (Position n)
set_from m p (Aspect n) = sets (mode_in m) p (Aspect n)

-- the value of a register after a packet. The value is `set`, or the value before the packet if
-- `set` is `None`. A register that the decoder does not have stays `None`.
abbrev pub value_over : Option Value → Option Value → Option Value
value_over None set = None
value_over (Some start) set = Some (unwrap_or set start)
