-- The registers of a locomotive decoder that the fields of its structure are.
use Rattle.std.proofs.Common.{◌≡◌, ◌≢◌, ℕ, zero, suc, ◌%◌, ◌^◌, ◌≤◌, Bool, true, false, List, [], length, refl, sym}
use Rattle.std.proofs.Common.{◌∙◌}
use Rattle.std.proofs.Common.{ap, arith}
use Rattle.std.specs.Prelude.{Option, None, Some, ◌&&◌, ◌||◌, ◌==◌, nat_le, nat_lt}
use Rattle.std.proofs.lemmas.Bool.Decides.{Decides-eqb}
use Rattle.dcc_wire.specs.Frames.{IsFrame}
use Rattle.dcc_packet.specs.declared.address.Address.{Address}
use Rattle.dcc_packet.specs.declared.packet.Packet.{Packet}
use Rattle.dcc_packet.specs.Spelling.{spelling}
use Rattle.dcc_regs.specs.declared.loco_registers.LocoRegisters.{LocoRegisters}
use Rattle.dcc_regs.specs.declared.register.Speed.{Speed}
use Rattle.dcc_regs.specs.declared.register.Speed.TheVariants.{Stop, Emergency, Step14, Step28, Step126}
use Rattle.dcc_regs.specs.declared.register.Who.TheVariants.{Loco as LocoWho}
use Rattle.dcc_regs.specs.Heard.{hears}
use Rattle.dcc_regs.specs.Loco.{is_byte_write, is_pending_for, is_speed}
use Rattle.dcc_regs.specs.LocoRegisters.{with_cvs}
use Rattle.dcc_regs.specs.LocoState.{is_state}
use Rattle.dcc_regs.specs.Writes.{is_own_write}
use Rattle.dcc_regs.proofs.PossibleLemmas.{of_parts}
use Rattle.dcc_c.specs.declared.frame.DccFrame.{DccFrame}
use Rattle.dcc_c.specs.declared.loco_numbers.DccLocoRegisters.{DccLocoRegisters}
use Rattle.dcc_c.specs.Frames.{frame_numbers}
use Rattle.dcc_c.specs.Locos.{HasAddress, pending_numbers, register_numbers, speed_mode, speed_step, words_of}
use Rattle.dcc_c.proofs.HeardLemmas.{own_is_frame, same_frame}

-- two or three tests that all hold
pub all_three : (a b c : Bool) → (a && b && c) ≡ true → (a ≡ true) × (b ≡ true) × (c ≡ true)
all_three true true true h = (refl, refl, refl)
all_three a b c h = cc

pub of_three : (a b c : Bool) → a ≡ true → b ≡ true → c ≡ true → (a && b && c) ≡ true
of_three a b c d e f = rw (d, e, f) refl

pub both : (a b : Bool) → (a && b) ≡ true → (a ≡ true) × (b ≡ true)
both true true h = (refl, refl)
both a b h = cc

-- the speed of a kind and a step
abbrev pub SpeedIs : ℕ → ℕ → Type 0
SpeedIs mode step =
    (speed : Speed) × (is_speed speed ≡ true) × (mode ≡ speed_mode speed) × (step ≡ speed_step speed)

pub stop_of : (mode step : ℕ) → mode ≤ 1 → step ≡ 0 → SpeedIs mode step
stop_of zero step low e = (Stop, refl, refl, e)
stop_of (suc zero) step low e = (Emergency, refl, refl, e)
stop_of (suc (suc mode)) step low e = absurd (omega arith)

by_mode : (mode step : ℕ) (a b d : Bool) → (mode == 14) ≡ a → (mode == 28) ≡ b → (mode == 126) ≡ d
    → (a || b || d) ≡ true → nat_le 1 step ≡ true → nat_le step mode ≡ true → SpeedIs mode step
by_mode mode step true b d e f g h low high =
    let same : mode ≡ 14 = (Decides-eqb mode 14).0 e in
    let most : nat_le step 14 ≡ true = rw same at high in
    (Step14 step, rw (low, most) refl, same, refl)
by_mode mode step false true d e f g h low high =
    let same : mode ≡ 28 = (Decides-eqb mode 28).0 f in
    let most : nat_le step 28 ≡ true = rw same at high in
    (Step28 step, rw (low, most) refl, same, refl)
by_mode mode step false false true e f g h low high =
    let same : mode ≡ 126 = (Decides-eqb mode 126).0 g in
    let most : nat_le step 126 ≡ true = rw same at high in
    (Step126 step, rw (low, most) refl, same, refl)
by_mode mode step false false false e f g h low high = absurd (cc)

pub step_of : (mode step : ℕ) → ((mode == 14 || mode == 28 || mode == 126) && nat_le 1 step && nat_le step mode) ≡ true
    → SpeedIs mode step
step_of mode step h =
    let all = all_three (mode == 14 || mode == 28 || mode == 126) (nat_le 1 step) (nat_le step mode) h in
    by_mode mode step (mode == 14) (mode == 28) (mode == 126) refl refl refl all.0 all.1 all.2

-- the parts of a pending write
pub pending_parts : (own : Option Address) (p : Packet) → is_pending_for own (Some p) ≡ true
    → (is_own_write p ≡ true) × (is_byte_write p ≡ true) × (hears (LocoWho own) p ≡ true)
pending_parts own p h = all_three (is_own_write p) (is_byte_write p) (hears (LocoWho own) p) h

pub pending_of : (own : Option Address) (p : Packet) → is_own_write p ≡ true → is_byte_write p ≡ true
    → hears (LocoWho own) p ≡ true → is_pending_for own (Some p) ≡ true
pending_of own p = of_three (is_own_write p) (is_byte_write p) (hears (LocoWho own) p)

-- a structure without bytes has no pending write
pub none_pending : (own : Option Address) (packet : Option Packet) (pending : DccFrame)
    → is_pending_for own packet ≡ true → pending ≡ pending_numbers packet → pending.len ≡ 0
    → pending ≡ frame_numbers []
none_pending own None pending possible e none = e
none_pending own (Some p) pending possible e none =
    let parts = pending_parts own p possible in
    let least = (own_is_frame p parts.0 parts.1).least in
    let len : pending.len ≡ length (spelling p) = ap (λ (f : DccFrame). f.len) e in
    absurd (omega arith)

-- a structure with bytes has one
pub some_pending : (packet : Option Packet) (pending : DccFrame) → pending ≡ pending_numbers packet
    → pending.len ≢ 0 → (p : Packet) × (packet ≡ Some p)
some_pending None pending e some = absurd (some (ap (λ (f : DccFrame). f.len) e))
some_pending (Some p) pending e some = (p, refl)

-- the registers of fields that are possible
pub registers_of : (numbers : DccLocoRegisters) (own : Option Address) (speed : Speed) (functions states : ℕ)
    (pending : Option Packet) → HasAddress numbers own → is_speed speed ≡ true
    → numbers.speed_mode ≡ speed_mode speed → numbers.step ≡ speed_step speed
    → numbers.functions ≡ words_of functions → nat_lt functions (2 ^ 69) ≡ true
    → numbers.states ≡ words_of states → (states % 2 == 0) ≡ true
    → is_pending_for own pending ≡ true → numbers.pending ≡ pending_numbers pending
    → (registers : LocoRegisters) × ((cvs : List ℕ) → is_state (with_cvs registers cvs) ≡ true)
    × (numbers ≡ register_numbers registers)
registers_of numbers own speed functions states pending has in_range mode step f small s even held p = (
  record {
    functions = functions;
    states = states;
    pending = pending;
    address = own;
    speed = speed;
    forward = numbers.forward;
  },
  λ cvs. of_parts
      (record {
        address = own;
        speed = speed;
        forward = numbers.forward;
        functions = functions;
        states = states;
        pending = pending;
        cvs = cvs;
      })
      (record { active = has.active; speed = in_range; functions = small; states = even; pending = held }),
  λ i. record {
    address_kind = has.kind i;
    speed_mode = mode i;
    step = step i;
    forward = numbers.forward;
    address = has.number i;
    pending = p i;
    functions = f i;
    states = s i;
  },
)

-- a structure with the bytes of a frame has the packet of this frame as its pending write
pub pending_is : (own : Option Address) (held : Option Packet) (pending : DccFrame) (frame : List ℕ) → IsFrame frame
    → is_pending_for own held ≡ true → pending ≡ pending_numbers held → pending ≡ frame_numbers frame
    → (p : Packet) × (spelling p ≡ frame) × (is_own_write p ≡ true) × (hears (LocoWho own) p ≡ true)
pending_is own None pending frame valid possible e f =
    let least = valid.least in
    let none : 0 ≡ length frame = ap (λ (h : DccFrame). h.len) (sym e ∙ f) in
    absurd (omega arith)
pending_is own (Some p) pending frame valid possible e f =
    let parts = pending_parts own p possible in
    (p, same_frame (spelling p) frame (sym e ∙ f), parts.0, parts.2)
