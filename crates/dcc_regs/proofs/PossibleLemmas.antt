-- What a state says that a locomotive decoder can be in, and the state after a packet that it hears.
use Rattle.std.proofs.Common.{◌≡◌, ℕ, ◌^◌, ◌%◌, Bool, true, false, refl, ◌∙◌, arith}
use Rattle.std.specs.Prelude.{◌&&◌, ◌==◌, nat_lt, Option, None, Some, IfSome, unwrap_or, if◌then◌else◌}
use Rattle.std.proofs.lemmas.Bool.Decides.{nat_tests}
use Rattle.dcc_packet.specs.declared.packet.Packet.{Packet}
use Rattle.dcc_packet.specs.Bits.{is_one}
use Rattle.dcc_regs.specs.declared.loco_state.LocoState.{LocoState}
use Rattle.dcc_regs.specs.declared.register.Register.{Register}
use Rattle.dcc_regs.specs.declared.register.Register.TheVariants.{Speed as SpeedRegister, Direction, Function}
use Rattle.dcc_regs.specs.declared.register.Register.TheVariants.{State as StateRegister, CvBit}
use Rattle.dcc_regs.specs.declared.register.Register.TheVariants.{Pending as PendingRegister}
use Rattle.dcc_regs.specs.declared.register.Speed.{Speed}
use Rattle.dcc_regs.specs.declared.register.Value.{Value}
use Rattle.dcc_regs.specs.declared.register.Value.TheVariants.{Flag}
use Rattle.dcc_regs.specs.Addresses.{is_active}
use Rattle.dcc_regs.specs.Loco.{is_cv_bit, is_function, is_pending_for, is_speed}
use Rattle.dcc_regs.specs.LocoState.{is_state, loco_map, loco_who}
use Rattle.dcc_regs.specs.Possible.{IsPossible, may_hold}
use Rattle.dcc_regs.specs.States.{is_binary_state, state_by, state_set, turned_states}

-- a decoder can be in this state, told part by part
pub record IsState (s : LocoState) : Type 0 where
  pub active : is_active s.address ≡ true
  pub speed : is_speed s.speed ≡ true
  pub functions : nat_lt s.functions (2 ^ 69) ≡ true
  pub states : (s.states % 2 == 0) ≡ true
  pub pending : is_pending_for s.address s.pending ≡ true

all_five : (a b c d e : Bool) → (a && b && c && d && e) ≡ true
    → (a ≡ true) × (b ≡ true) × (c ≡ true) × (d ≡ true) × (e ≡ true)
all_five true true true true true h = (refl, refl, refl, refl, refl)
all_five a b c d e h = cc

pub parts_of : (s : LocoState) → is_state s ≡ true → IsState s
parts_of s h =
    let all = all_five (is_active s.address) (is_speed s.speed) (nat_lt s.functions (2 ^ 69)) (s.states % 2 == 0)
    (is_pending_for s.address s.pending) h in
    record { active = all.0; speed = all.1; functions = all.2; states = all.3; pending = all.4 }

pub of_parts : (s : LocoState) → IsState s → is_state s ≡ true
of_parts s h = rw (h.active, h.speed, h.functions, h.states, h.pending) refl

-- a register that a decoder may lack
pub held_by : (may : Option Value → Bool) (v : Value) (t : Bool) → (t ≡ true → may (Some v) ≡ true)
    → (t ≡ false → may None ≡ true) → may (if t then Some v else None) ≡ true
held_by may v true f g = f refl
held_by may v false f g = g refl

-- its registers hold what they may hold
held : (s : LocoState) → IsState s → (r : Register) → may_hold (loco_who s) r (loco_map s r) ≡ true
held s h SpeedRegister = h.speed
held s h Direction = refl
held s h (Function n) =
    held_by (may_hold (loco_who s) (Function n)) (Flag (is_one s.functions n)) (is_function n) (λ e. e) (λ e. rw e refl)
held s h (StateRegister n) =
    held_by (may_hold (loco_who s) (StateRegister n)) (Flag (is_one s.states n)) (is_binary_state n) (λ e. e)
    (λ e. rw e refl)
held s h (CvBit cv place) =
    held_by (may_hold (loco_who s) (CvBit cv place)) _ (is_cv_bit cv place) (λ e. e) (λ e. rw e refl)
held s h PendingRegister = h.pending
held s h r = refl

pub possible : (s : LocoState) → is_state s ≡ true → IsPossible (loco_who s) (loco_map s)
possible s h = record { decoder = (parts_of s h).active; registers = held s (parts_of s h) }

-- a speed that is set is one
pub speed_kept : (set : Option Speed) (old now : Speed) → IfSome set (λ speed. is_speed speed ≡ true)
    → is_speed old ≡ true → now ≡ unwrap_or set old → is_speed now ≡ true
speed_kept None old now set was e = rw e was
speed_kept (Some speed) old now set was e = rw e set

-- no packet turns state 0
state_0 : (told : Option (ℕ × Bool)) (old : Bool) → unwrap_or (state_by told 0) old ≡ old
state_0 None old = refl
state_0 (Some told) old = refl

even_bit : (now old : ℕ) → is_one now 0 ≡ is_one old 0 → (old % 2 == 0) ≡ true → (now % 2 == 0) ≡ true
even_bit now old e h = grind (arith, nat_tests)

pub states_kept : (p : Packet) (old now : ℕ) → is_one now 0 ≡ unwrap_or (state_set p 0) (is_one old 0)
    → (old % 2 == 0) ≡ true → (now % 2 == 0) ≡ true
states_kept p old now e h = even_bit now old (e ∙ state_0 (turned_states p) (is_one old 0)) h
