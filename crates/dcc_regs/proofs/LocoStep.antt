-- What one packet does to a locomotive decoder.
use Rattle.std.proofs.Common.{◌≡◌, ℕ, ◌≤◌, Bool, true, false, List, [], ◌∷◌, refl, sym, ◌∙◌, ap, arith}
use Rattle.std.specs.Prelude.{Option, None, Some, unwrap_or, option_map, if◌then◌else◌}
use Rattle.std.specs.List.{cons_option}
use Rattle.std.proofs.lemmas.Bool.Decides.{nat_tests}
use mathlib.Core.Path.{fun_ext}
use Rattle.dcc_packet.specs.declared.address.Address.{Address}
use Rattle.dcc_packet.specs.declared.packet.Packet.{Packet}
use Rattle.dcc_regs.specs.declared.register.Who.TheVariants.{Loco as LocoWho}
use Rattle.dcc_regs.specs.declared.register.Who.{Who}
use Rattle.dcc_regs.specs.declared.register.SpeedMode.{SpeedMode}
use Rattle.dcc_regs.specs.declared.register.Register.{Register}
use Rattle.dcc_regs.specs.declared.register.Register.TheVariants.{Speed as SpeedRegister, Direction, Function}
use Rattle.dcc_regs.specs.declared.register.Register.TheVariants.{State as StateRegister, CvBit}
use Rattle.dcc_regs.specs.declared.register.Register.TheVariants.{Pending as PendingRegister}
use Rattle.dcc_regs.specs.declared.register.Value.{Value}
use Rattle.dcc_regs.specs.declared.register.Value.TheVariants.{Speed as SpeedValue, Forward, Flag}
use Rattle.dcc_regs.specs.declared.register.Value.TheVariants.{Pending as PendingValue}
use Rattle.dcc_packet.specs.Bits.{is_one}
use Rattle.dcc_regs.specs.Heard.{hears}
use Rattle.dcc_regs.specs.Speeds.{speed_set, direction_set}
use Rattle.dcc_regs.specs.FunctionBits.{function_set}
use Rattle.dcc_regs.specs.States.{is_binary_state, state_set}
use Rattle.dcc_regs.specs.Writes.{bit_set, is_own_write}
use Rattle.dcc_regs.specs.Result.{RegisterMap, set_in_turn, mode_of, is_effective, result_of_heard, step}
use Rattle.dcc_regs.specs.Setting.{effective_set, left_pending}
use Rattle.dcc_regs.specs.Loco.{LocoContent, loco_registers, is_byte_write, is_pending_for, is_function, is_cv_bit}
use Rattle.dcc_regs.specs.Sets.{sets}
use Rattle.dcc_regs.specs.Inner.SetsByKind.{sets_by_kind}
use Rattle.dcc_regs.proofs.InParts.{result-nothing}
use Rattle.dcc_regs.proofs.OneTable.{same_table}

-- how the decoder reads speed instructions
abbrev pub mode_held : LocoContent → SpeedMode
mode_held d = mode_of (Some (Flag (is_one (d.cvs 29) 1)))

-- d is a decoder before the packet that it hears, and d' after it
pub record Obeys (p : Packet) (mode : SpeedMode) (d d' : LocoContent) : Type 0 where
  pub reads : mode ≡ mode_held d
  pub speed : d'.speed ≡ unwrap_or (speed_set mode p) d.speed
  pub forward : d'.forward ≡ unwrap_or (direction_set p) d.forward
  pub functions : (n : ℕ) → n ≤ 68 → d'.functions n ≡ unwrap_or (function_set mode p n) (d.functions n)
  pub states : (n : ℕ) → n ≤ 127 → d'.states n ≡ unwrap_or (state_set p n) (d.states n)
  pub cvs : (cv place : ℕ) → 1 ≤ cv → place ≤ 7
      → is_one (d'.cvs cv)
      place ≡ (if is_effective (Some (PendingValue d.pending)) p then unwrap_or (bit_set p cv place)
      (is_one (d.cvs cv) place) else is_one (d.cvs cv) place)
  pub pending : d'.pending ≡ left_pending p

-- a register that a packet may set
set_by : {A : Type 0} (wrap : A → Value) (o : Option A) (old : A)
    → Some (wrap (unwrap_or o old)) ≡ set_in_turn (Some (wrap old)) (cons_option (option_map wrap o) [])
set_by wrap None old = refl
set_by wrap (Some x) old = refl

set_where : {A : Type 0} (wrap : A → Value) (t : Bool) (o : Option A) (old : A)
    → Some (wrap (if t then unwrap_or o old else old)) ≡ set_in_turn (Some (wrap old))
    (cons_option (if t then option_map wrap o else None) [])
set_where wrap true o old = set_by wrap o old
set_where wrap false o old = refl

-- a register that a decoder may lack
where_there : (t : Bool) (new old : Value) (vs : List Value) → (t ≡ true → Some new ≡ set_in_turn (Some old) vs)
    → (if t then Some new else None) ≡ set_in_turn (if t then Some old else None) vs
where_there true new old vs h = h refl
where_there false new old vs h = refl

pub set_there : {A : Type 0} (wrap : A → Value) (t : Bool) (o : Option A) (new old : A) → (t ≡ true → new
    ≡ unwrap_or o old)
    → (if t then Some (wrap new) else None) ≡ set_in_turn (if t then Some (wrap old) else None)
    (cons_option (option_map wrap o) [])
set_there wrap true o new old h = rw (h refl) (set_by wrap o old)
set_there wrap false o new old h = refl

-- what a packet sets by kind of register is what it sets by the table
pub by_table : (mode : SpeedMode) (p : Packet) (r : Register) (held : Option Value)
    → set_in_turn held (cons_option (sets_by_kind mode p r) []) ≡ set_in_turn held (cons_option (sets mode p r) [])
by_table mode p r held = ap (λ set. set_in_turn held (cons_option set [])) (sym (same_table mode p r))

at_register : (p : Packet) (mode : SpeedMode) (d d' : LocoContent) → Obeys p mode d d' → (r : Register)
    → loco_registers d' r ≡ result_of_heard (loco_registers d) (p ∷ []) r
at_register p mode d d' o SpeedRegister =
    (rw (o.speed, o.reads) (set_by SpeedValue (speed_set (mode_held d) p) d.speed))
    ∙ by_table (mode_held d) p SpeedRegister (Some (SpeedValue d.speed))
at_register p mode d d' o Direction =
    (rw o.forward (set_by Forward (direction_set p) d.forward))
    ∙ by_table (mode_held d) p Direction (Some (Forward d.forward))
at_register p mode d d' o (Function n) =
    set_there Flag (is_function n) (function_set (mode_held d) p n) (d'.functions n) (d.functions n)
    (λ t. rw o.reads at (o.functions n (grind (arith, nat_tests))))
    ∙ by_table (mode_held d) p (Function n) (loco_registers d (Function n))
at_register p mode d d' o (StateRegister n) =
    set_there Flag (is_binary_state n) (state_set p n) (d'.states n) (d.states n)
    (λ t. o.states n (grind (arith, nat_tests)))
    ∙ by_table (mode_held d) p (StateRegister n) (loco_registers d (StateRegister n))
at_register p mode d d' o (CvBit cv place) =
    where_there (is_cv_bit cv place) (Flag (is_one (d'.cvs cv) place)) (Flag (is_one (d.cvs cv) place))
    (cons_option (effective_set (Some (PendingValue d.pending)) p cv place) [])
    (λ t.
    ap (λ b. Some (Flag b)) (o.cvs cv place (grind (arith, nat_tests)) (grind (arith, nat_tests)))
    ∙ set_where Flag (is_effective (Some (PendingValue d.pending)) p) (bit_set p cv place) (is_one (d.cvs cv) place))
at_register p mode d d' o PendingRegister = rw o.pending refl
at_register p mode d d' o r = refl

-- a packet that is heard
pub step-heard : (who : Who) (p : Packet) (mode : SpeedMode) (d d' : LocoContent) → hears who p ≡ true
    → Obeys p mode d d' → loco_registers d' ≡ step who (loco_registers d) p
step-heard who p mode d d' h o =
    rw h (fun_ext (at_register p mode d d' o))

-- a packet that is not heard changes nothing
pub step-unheard : (who : Who) (p : Packet) (m : RegisterMap) → hears who p ≡ false → m ≡ step who m p
step-unheard who p m h = rw h (sym (result-nothing who m))

-- what a heard packet leaves pending
by_own : (active : Option Address) (p : Packet) → hears (LocoWho active) p ≡ true → is_byte_write p ≡ true
    → (own : Bool) → is_own_write p ≡ own
    → is_pending_for active (if own then Some p else None) ≡ true
by_own active p h byte true e = rw (e, byte, h) refl
by_own active p h byte false e = refl

pub pending-heard : (active : Option Address) (p : Packet) (left : Option Packet) → hears (LocoWho active) p ≡ true
    → is_byte_write p ≡ true → left ≡ left_pending p
    → is_pending_for active left ≡ true
pending-heard active p left h byte e = rw e (by_own active p h byte (is_own_write p) refl)
