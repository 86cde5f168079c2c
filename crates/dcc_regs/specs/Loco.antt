-- The registers of a locomotive decoder and their start values.
use Rattle.std.specs.Prelude.{ℕ, Bool, true, false, ◌&&◌, ◌==◌, nat_le, Option, None, Some}
use Rattle.std.specs.Prelude.{if◌then◌else◌}
use Rattle.dcc_packet.specs.declared.address.Address.{Address}
use Rattle.dcc_packet.specs.declared.instruction.What.{What}
use Rattle.dcc_packet.specs.declared.packet.Packet.{Packet}
use Rattle.dcc_regs.specs.declared.register.Who.{Who}
use Rattle.dcc_regs.specs.declared.register.Who.TheVariants.{Loco as LocoWho}
use Rattle.dcc_regs.specs.declared.register.Speed.{Speed}
use Rattle.dcc_regs.specs.declared.register.Speed.TheVariants.{Stop, Emergency, Step14, Step28, Step126}
use Rattle.dcc_regs.specs.declared.register.Register.TheVariants.{Speed as SpeedRegister, Direction, Function}
use Rattle.dcc_regs.specs.declared.register.Register.TheVariants.{State as StateRegister, CvBit}
use Rattle.dcc_regs.specs.declared.register.Register.TheVariants.{Pending as PendingRegister}
use Rattle.dcc_regs.specs.declared.register.Value.{Value}
use Rattle.dcc_regs.specs.declared.register.Value.TheVariants.{Speed as SpeedValue, Forward, Flag}
use Rattle.dcc_regs.specs.declared.register.Value.TheVariants.{Pending as PendingValue}
use Rattle.dcc_packet.specs.Bits.{is_one, byte_of}
use Rattle.dcc_regs.specs.Addresses.{active_address}
use Rattle.dcc_regs.specs.Heard.{hears}
use Rattle.dcc_regs.specs.States.{is_binary_state}
use Rattle.dcc_regs.specs.Writes.{CvChange, Byte, OneBit, cv_change, change_of, is_own_write}
use Rattle.dcc_regs.specs.Result.{RegisterMap}

-- the content of a locomotive decoder. `functions`, `states` and `cvs` map a number to the value of
-- the function, the binary state or the CV with this number.
pub record LocoContent : Type 0 where
  pub speed : Speed
  pub forward : Bool
  pub functions : ℕ → Bool
  pub states : ℕ → Bool
  pub cvs : ℕ → ℕ
  pub pending : Option Packet

-- true if `n` is the number of a function, 0 to 68
abbrev pub is_function : ℕ → Bool
is_function n = nat_le n 68

-- true if `place` is a bit (0 to 7) of a CV and `cv` is the number of a CV (1 to 1024)
abbrev pub is_cv_bit : ℕ → ℕ → Bool
is_cv_bit cv place = nat_le 1 cv && nat_le cv 1024 && nat_le place 7

-- the registers of a locomotive decoder with content `d`. A register that a locomotive decoder does
-- not have is `None`.
abbrev pub loco_registers : LocoContent → RegisterMap
loco_registers d SpeedRegister = Some (SpeedValue d.speed)
loco_registers d Direction = Some (Forward d.forward)
loco_registers d (Function n) = if is_function n then Some (Flag (d.functions n)) else None
loco_registers d (StateRegister n) = if is_binary_state n then Some (Flag (d.states n)) else None
loco_registers d (CvBit cv place) = if is_cv_bit cv place then Some (Flag (is_one (d.cvs cv) place)) else None
loco_registers d PendingRegister = Some (PendingValue d.pending)
loco_registers d x = None

-- the content of a locomotive decoder with the CVs `cvs` after power-up: stopped, forward, all
-- functions and binary states off, and no pending write
abbrev pub start_content : (ℕ → ℕ) → LocoContent
start_content cvs =
    record { speed = Stop; forward = true; functions = λ n. false; states = λ n. false; cvs = cvs; pending = None }

-- the identity of a locomotive decoder with the CVs `cvs` after power-up
abbrev pub start_who : (ℕ → ℕ) → Who
start_who cvs = LocoWho (active_address cvs)

abbrev pub start_map : (ℕ → ℕ) → RegisterMap
start_map cvs = loco_registers (start_content cvs)

-- true if the speed is a stop, or a step in the range of its speed mode
abbrev pub is_speed : Speed → Bool
is_speed Stop = true
is_speed Emergency = true
is_speed (Step14 n) = nat_le 1 n && nat_le n 14
is_speed (Step28 n) = nat_le 1 n && nat_le n 28
is_speed (Step126 n) = nat_le 1 n && nat_le n 126

-- true if there is no change of a CV, or if the change writes a value of at most 255
abbrev pub change_fits : Option CvChange → Bool
change_fits None = true
change_fits (Some (Byte cv value)) = nat_le value 255
change_fits (Some (OneBit cv place one)) = true

-- true if instruction `what` writes a value of at most 255 to a CV, or no value
abbrev pub writes_byte : What → Bool
writes_byte what = change_fits (cv_change what)

-- true if packet `p` writes a value of at most 255 to a CV, or no value
abbrev pub is_byte_write : Packet → Bool
is_byte_write p = change_fits (change_of p)

-- true if a decoder with the address `active` can have this pending write: `None`, or an own write
-- of a byte that the decoder hears
abbrev pub is_pending_for : Option Address → Option Packet → Bool
is_pending_for active None = true
is_pending_for active (Some p) = is_own_write p && is_byte_write p && hears (LocoWho active) p

-- true if the value of a register is a flag with the value true, for example a bit with the value
-- one
abbrev pub holds_one : Option Value → Bool
holds_one (Some (Flag true)) = true
holds_one held = false

-- the value of CV `cv`, computed from the registers `m` of its bits
abbrev pub cv_held : RegisterMap → ℕ → ℕ
cv_held m cv = byte_of (λ place. holds_one (m (CvBit cv place)))

-- the registers of a locomotive decoder after power-up. `m` are its registers before. The CVs are
-- unchanged, and all other registers have their start values.
abbrev pub powered_up : RegisterMap → RegisterMap
powered_up m (CvBit cv place) = m (CvBit cv place)
powered_up m r = start_map (cv_held m) r

-- the registers `m` of a locomotive decoder after CV `n` has the value `value`. All other registers
-- are unchanged.
abbrev pub with_cv : RegisterMap → ℕ → ℕ → RegisterMap
with_cv m n value (CvBit cv place) =
    if cv == n && nat_le place 7 then Some (Flag (is_one value place)) else m (CvBit cv place)
with_cv m n value r = m r
