-- The plain registers that a packet sets, by kind of register. `proofs/OneTable` proves that this
-- definition equals `sets`.
use Rattle.std.specs.Prelude.{Option, None, option_map}
use Rattle.dcc_packet.specs.declared.packet.Packet.{Packet}
use Rattle.dcc_regs.specs.declared.register.SpeedMode.{SpeedMode}
use Rattle.dcc_regs.specs.declared.register.Register.{Register}
use Rattle.dcc_regs.specs.declared.register.Register.TheVariants.{Speed as SpeedRegister, Direction, Function}
use Rattle.dcc_regs.specs.declared.register.Register.TheVariants.{State as StateRegister, CvBit}
use Rattle.dcc_regs.specs.declared.register.Register.TheVariants.{Pending as PendingRegister, Out, Position, Aspect}
use Rattle.dcc_regs.specs.declared.register.Value.{Value}
use Rattle.dcc_regs.specs.declared.register.Value.TheVariants.{Speed as SpeedValue, Forward, Flag, Number}
use Rattle.dcc_regs.specs.Speeds.{speed_set, direction_set}
use Rattle.dcc_regs.specs.FunctionBits.{function_set}
use Rattle.dcc_regs.specs.States.{state_set}
use Rattle.dcc_regs.specs.Outputs.{out_set, position_set, aspect_set, side}

-- the value to which packet `p` sets a plain register. The decoder has the speed mode `mode`. If
-- `p` does not set the register, the result is `None`.
abbrev pub sets_by_kind : SpeedMode → Packet → Register → Option Value
sets_by_kind mode p SpeedRegister = option_map SpeedValue (speed_set mode p)
sets_by_kind mode p Direction = option_map Forward (direction_set p)
sets_by_kind mode p (Function n) = option_map Flag (function_set mode p n)
sets_by_kind mode p (StateRegister n) = option_map Flag (state_set p n)
sets_by_kind mode p (Out n) = option_map Flag (out_set p n)
sets_by_kind mode p (Position n) = option_map side (position_set p n)
sets_by_kind mode p (Aspect n) = option_map Number (aspect_set p n)
sets_by_kind mode p (CvBit cv place) = None
sets_by_kind mode p PendingRegister = None
