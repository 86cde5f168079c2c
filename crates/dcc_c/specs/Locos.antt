-- The C structure of a locomotive decoder.
use Rattle.std.specs.Prelude.{◌≡◌, ℕ, true, ◌%◌, ◌/◌, ◌^◌, Option, None, Some, List, [], ◌∷◌}
use Rattle.dcc_packet.specs.declared.address.Address.{Address}
use Rattle.dcc_packet.specs.declared.packet.Packet.{Packet}
use Rattle.dcc_packet.specs.Spelling.{spelling}
use Rattle.dcc_regs.specs.Addresses.{is_active}
use Rattle.dcc_regs.specs.declared.loco_registers.LocoRegisters.{LocoRegisters}
use Rattle.dcc_regs.specs.declared.loco_state.LocoState.{LocoState}
use Rattle.dcc_regs.specs.declared.register.Speed.{Speed}
use Rattle.dcc_regs.specs.declared.register.Speed.TheVariants.{Stop, Emergency, Step14, Step28, Step126}
use Rattle.dcc_c.specs.declared.frame.DccFrame.{DccFrame}
use Rattle.dcc_regs.specs.LocoRegisters.{registers_in}
use Rattle.dcc_c.specs.declared.loco_numbers.DccLoco.{DccLoco}
use Rattle.dcc_c.specs.declared.loco_numbers.DccLocoRegisters.{DccLocoRegisters}
use Rattle.dcc_c.specs.Frames.{frame_numbers}
use Rattle.dcc_c.specs.Packets.{address_kind, address_number}

-- the number of the kind of an active address, or 0 if there is no active address
abbrev pub own_kind : Option Address → ℕ
own_kind None = 0
own_kind (Some own) = address_kind own

abbrev pub own_number : Option Address → ℕ
own_number None = 0
own_number (Some own) = address_number own

-- the address fields of `registers` store the active address `own`. If `own` is `None`, they store
-- no active address.
pub record HasAddress (registers : DccLocoRegisters) (own : Option Address) : Type 0 where
  pub active : is_active own ≡ true
  pub kind : registers.address_kind ≡ own_kind own
  pub number : registers.address ≡ own_number own

-- the number of the kind of a speed: 0 for stop, 1 for emergency stop, otherwise the number of
-- speed steps
abbrev pub speed_mode : Speed → ℕ
speed_mode Stop = 0
speed_mode Emergency = 1
speed_mode (Step14 step) = 14
speed_mode (Step28 step) = 28
speed_mode (Step126 step) = 126

abbrev pub speed_step : Speed → ℕ
speed_step Stop = 0
speed_step Emergency = 0
speed_step (Step14 step) = step
speed_step (Step28 step) = step
speed_step (Step126 step) = step

-- the two words that store the number `bits`: its bits 0 to 63, and its bits from 64 on
abbrev pub words_of : ℕ → List ℕ
words_of bits = bits % 2 ^ 64 ∷ bits / 2 ^ 64 ∷ []

-- the C structure of the frame of a pending write. If no write is pending, the structure has no
-- bytes.
abbrev pub pending_numbers : Option Packet → DccFrame
pending_numbers None = frame_numbers []
pending_numbers (Some packet) = frame_numbers (spelling packet)

-- the C structure of the registers `r` of a locomotive decoder
abbrev pub register_numbers : LocoRegisters → DccLocoRegisters
register_numbers r = record {
  address_kind = own_kind r.address;
  address = own_number r.address;
  speed_mode = speed_mode r.speed;
  step = speed_step r.speed;
  forward = r.forward;
  pending = pending_numbers r.pending;
  functions = words_of r.functions;
  states = words_of r.states;
}

-- the C structure of a locomotive decoder in state `s`
abbrev pub loco_numbers : LocoState → DccLoco
loco_numbers s = record { registers = register_numbers (registers_in s); cvs = s.cvs }
