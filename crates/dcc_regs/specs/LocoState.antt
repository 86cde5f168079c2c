-- The state of a locomotive decoder as plain data.
use Rattle.std.specs.Prelude.{Bool, ◌&&◌, ◌==◌, nat_lt, ◌^◌, ◌%◌}
use Rattle.dcc_regs.specs.declared.loco_state.LocoState.{LocoState}
use Rattle.dcc_regs.specs.declared.register.Who.{Who}
use Rattle.dcc_regs.specs.declared.register.Who.TheVariants.{Loco as LocoWho}
use Rattle.dcc_packet.specs.Bits.{is_one}
use Rattle.dcc_packet.specs.Cvs.{cv_in}
use Rattle.dcc_regs.specs.Loco.{LocoContent, loco_registers, is_speed, is_pending_for}
use Rattle.dcc_regs.specs.Result.{RegisterMap}
use Rattle.dcc_regs.specs.Addresses.{is_active}

-- true if a locomotive decoder can be in state `s`. Its address is no broadcast, and its speed step
-- is in range. No function above 68 and no binary state 0 is on. A pending packet is a CV write to
-- its address.
abbrev pub is_state : LocoState → Bool
is_state s =
    is_active s.address && is_speed s.speed && nat_lt s.functions (2 ^ 69) && s.states % 2 == 0 && is_pending_for
    s.address s.pending

-- the content of a locomotive decoder in state `s`
abbrev pub loco_state_content : LocoState → LocoContent
loco_state_content s =
    record {
      speed = s.speed;
      forward = s.forward;
      functions = is_one s.functions;
      states = is_one s.states;
      cvs = cv_in s.cvs;
      pending = s.pending;
    }

-- the identity of a locomotive decoder in state `s`
abbrev pub loco_who : LocoState → Who
loco_who s = LocoWho s.address

abbrev pub loco_map : LocoState → RegisterMap
loco_map s = loco_registers (loco_state_content s)
