-- The functions of a locomotive that a station remembers, as a C structure.
use Rattle.std.specs.Prelude.{◌≡◌, ℕ, nat_le, Bool, true, IsSome, if◌then◌else◌, Result, Ok, Err}
use Rattle.dcc_packet.specs.declared.address.Address.{Address}
use Rattle.dcc_packet.specs.declared.fault.PacketFault.{PacketFault}
use Rattle.dcc_packet.specs.declared.fault.PacketFault.TheVariants.{State}
use Rattle.dcc_packet.specs.declared.functions.GroupBits.{GroupBits}
use Rattle.dcc_packet.specs.declared.instruction.What.TheVariants.{Functions}
use Rattle.dcc_packet.specs.declared.packet.Packet.TheVariants.{Loco}
use Rattle.dcc_packet.specs.Fault.{packet_fault_number}
use Rattle.dcc_packet.specs.Spelling.{spelling}
use Rattle.dcc_regs.specs.FunctionBits.{function_place}
use Rattle.dcc_regs.specs.Heard.{hears}
use Rattle.dcc_regs.specs.Result.{RegisterMap, step}
use Rattle.dcc_regs.specs.Setting.{mode_in}
use Rattle.dcc_regs.specs.declared.register.SpeedMode.TheVariants.{Steps28}
use Rattle.dcc_regs.specs.declared.register.Who.{Who}
use Rattle.dcc_station.specs.Functions.{HasFunctions, HasStates, IsTurned}
use Rattle.dcc_c.specs.declared.frame.DccFrame.{DccFrame}
use Rattle.dcc_c.specs.declared.functions.DccFunctions.{DccFunctions}
use Rattle.dcc_c.specs.Frames.{frame_numbers}
use Rattle.dcc_c.specs.Locos.{words_of}

-- the C structure `f` stores the functions `functions`, of which bit n is one if function n is on
abbrev pub Remembers : DccFunctions → ℕ → Type 0
Remembers f functions = f.on ≡ words_of functions

-- the number of the error of a turn: the error of the address, then P13 for a function above 68. If
-- there is no error, the number is 0.
abbrev pub turn_answer : Result Address PacketFault → ℕ → ℕ
turn_answer (Ok to) function = if nat_le function 68 then 0 else packet_fault_number State
turn_answer (Err fault) function = packet_fault_number fault

-- function `function` was turned on or off in the C structure `old`, which then became `new`. The
-- structure `frame` has the frame of the packet to the address `to` that sets the function group
-- of this function, with the states of all functions of this group.
pub record IsGroupTurned (to : Address) (function : ℕ) (on : Bool) (old new : DccFunctions) (frame : DccFrame) : Type 0
  where
    pub before : ℕ
    pub after : ℕ
    pub bits : GroupBits
    pub stored : Remembers old before
    pub stores : Remembers new after
    pub turned : IsTurned before function on after
    pub bytes : frame ≡ frame_numbers (spelling (Loco to (Functions bits)))
    pub in_group : IsSome (function_place Steps28 bits.group function)
    pub states : HasStates after bits
    -- let a decoder have the functions `before`, and hear the packet. The decoder then has the
    -- functions `after`.
    pub follows : (who : Who) (start : RegisterMap) → hears who (Loco to (Functions bits)) ≡ true
        → HasFunctions (mode_in start) before start
        → HasFunctions (mode_in start) after (step who start (Loco to (Functions bits)))
