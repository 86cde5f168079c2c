-- The registers that the C structure of a locomotive decoder stores. There is at most one such list
-- of registers.
use Rattle.std.specs.Prelude.{◌≡◌, ℕ, ◌%◌, ◌/◌, ◌^◌, ◌&&◌, Bool, true, Option, None, Some, List, [], refl}
use Rattle.std.specs.Coded.{Coded, Coded-set, code_by, coded×, coded_ℕ, coded_bool, coded_list}
use Rattle.std.proofs.Common.{◌∙◌, sym, ap, subst, arith}
use Rattle.dcc_packet.specs.declared.address.Address.{Address}
use Rattle.dcc_packet.specs.declared.address.Address.TheVariants.{Broadcast, Short, Long}
use Rattle.dcc_packet.specs.declared.packet.Packet.{Packet}
use Rattle.dcc_packet.specs.Spelling.{spelling}
use Rattle.dcc_packet.proofs.OneSpelling.{one_packet}
use Rattle.dcc_packet.proofs.Same.{same_short, same_long}
use Rattle.dcc_regs.specs.declared.loco_registers.LocoRegisters.{LocoRegisters}
use Rattle.dcc_regs.specs.declared.register.Speed.{Speed}
use Rattle.dcc_regs.specs.declared.register.Speed.TheVariants.{Stop, Emergency, Step14, Step28, Step126}
use Rattle.dcc_regs.specs.Addresses.{is_active}
use Rattle.dcc_regs.specs.LocoRegisters.{with_cvs}
use Rattle.dcc_regs.specs.LocoState.{is_state}
use Rattle.dcc_c.specs.declared.frame.DccFrame.{DccFrame}
use Rattle.dcc_c.specs.declared.loco_numbers.DccLocoRegisters.{DccLocoRegisters}
use Rattle.dcc_c.specs.Frames.{bytes_of, frame_numbers}
use Rattle.dcc_c.specs.KeptPackets.{some_bytes}
use Rattle.dcc_c.specs.KeptPacketLaw.{bytes_back}
use Rattle.dcc_c.specs.Locos.{own_kind, own_number, pending_numbers, register_numbers, speed_mode, speed_step, words_of}

-- the C structure `n` stores the registers `r`, and a locomotive decoder can have them
pub record Stores (n : DccLocoRegisters) (r : LocoRegisters) : Type 0 where
  pub possible : is_state (with_cvs r []) ≡ true
  pub numbers : n ≡ register_numbers r

-- the registers that the C structure `n` stores
abbrev pub HeldBy : DccLocoRegisters → Type 0
HeldBy n = (registers : LocoRegisters) × Stores n registers

first_of : (a b c d g : Bool) → (a && b && c && d && g) ≡ true → a ≡ true
first_of true b c d g h = refl
first_of a b c d g h = cc

active_state : (r : LocoRegisters) → is_state (with_cvs r []) ≡ true → is_active r.address ≡ true
active_state r possible = first_of (is_active r.address) _ _ _ _ possible

same_own : (a b : Option Address) → is_active a ≡ true → is_active b ≡ true → own_kind a ≡ own_kind b
    → own_number a ≡ own_number b → a ≡ b
same_own None None p q e f = refl
same_own (Some (Short a)) (Some (Short b)) p q e f = ap (λ x. Some (Short x)) (same_short a b f)
same_own (Some (Long a)) (Some (Long b)) p q e f = ap (λ x. Some (Long x)) (same_long a b f)
same_own (Some Broadcast) b p q e f = absurd (cc)
same_own a (Some Broadcast) p q e f = absurd (cc)
same_own None (Some (Short b)) p q e f = absurd (omega arith)
same_own None (Some (Long b)) p q e f = absurd (omega arith)
same_own (Some (Short a)) None p q e f = absurd (omega arith)
same_own (Some (Short a)) (Some (Long b)) p q e f = absurd (omega arith)
same_own (Some (Long a)) None p q e f = absurd (omega arith)
same_own (Some (Long a)) (Some (Short b)) p q e f = absurd (omega arith)

same_speed : (a b : Speed) → speed_mode a ≡ speed_mode b → speed_step a ≡ speed_step b → a ≡ b
same_speed Stop Stop e f = refl
same_speed Emergency Emergency e f = refl
same_speed (Step14 a) (Step14 b) e f = ap Step14 f
same_speed (Step28 a) (Step28 b) e f = ap Step28 f
same_speed (Step126 a) (Step126 b) e f = ap Step126 f
same_speed a b e f = absurd (omega arith)

same_words : (a b : ℕ) → words_of a ≡ words_of b → a ≡ b
same_words a b e =
    let low : a % 2 ^ 64 ≡ b % 2 ^ 64 = cc in
    let high : a / 2 ^ 64 ≡ b / 2 ^ 64 = cc in
    omega arith

same_spelling : (a b : List ℕ) → frame_numbers a ≡ frame_numbers b → a ≡ b
same_spelling a b e = sym (bytes_back a) ∙ ap bytes_of e ∙ bytes_back b

same_pending : (a b : Option Packet) → pending_numbers a ≡ pending_numbers b → a ≡ b
same_pending None None e = refl
same_pending None (Some b) e = absurd (some_bytes b (sym (same_spelling [] (spelling b) e)))
same_pending (Some a) None e = absurd (some_bytes a (same_spelling (spelling a) [] e))
same_pending (Some a) (Some b) e = ap Some (one_packet a b (same_spelling (spelling a) (spelling b) e))

by_parts : (a b : LocoRegisters) → a.address ≡ b.address → a.speed ≡ b.speed → a.forward ≡ b.forward
    → a.functions ≡ b.functions → a.states ≡ b.states → a.pending ≡ b.pending → a ≡ b
by_parts a b address speed forward functions states pending =
    rw (address, speed, forward, functions, states, pending) refl

-- two registers that one structure stores are equal
pub one_held : (a b : LocoRegisters) → is_state (with_cvs a []) ≡ true → is_state (with_cvs b []) ≡ true
    → register_numbers a ≡ register_numbers b → a ≡ b
one_held a b p q e =
    by_parts a b
    (same_own a.address b.address (active_state a p) (active_state b q)
    (ap (λ (n : DccLocoRegisters). n.address_kind) e) (ap (λ (n : DccLocoRegisters). n.address) e))
    (same_speed a.speed b.speed (ap (λ (n : DccLocoRegisters). n.speed_mode) e)
    (ap (λ (n : DccLocoRegisters). n.step) e))
    (ap (λ (n : DccLocoRegisters). n.forward) e)
    (same_words a.functions b.functions (ap (λ (n : DccLocoRegisters). n.functions) e))
    (same_words a.states b.states (ap (λ (n : DccLocoRegisters). n.states) e))
    (same_pending a.pending b.pending (ap (λ (n : DccLocoRegisters). n.pending) e))

frame_code : Coded DccFrame
frame_code =
    code_by (ℕ × List ℕ) (coded× coded_ℕ (coded_list coded_ℕ)) (λ f. (f.len, f.bytes))
    (λ p. record { len = p.0; bytes = p.1 }) (λ _. refl)

registers_code : Coded DccLocoRegisters
registers_code =
    code_by (ℕ × (ℕ × (ℕ × (Bool × (ℕ × (DccFrame × (List ℕ × List ℕ)))))))
    (coded× coded_ℕ (coded× coded_ℕ (coded× coded_ℕ (coded× coded_bool (coded× coded_ℕ (coded× frame_code
    (coded× (coded_list coded_ℕ) (coded_list coded_ℕ))))))))
    (λ n. (n.address_kind, (n.speed_mode, (n.step, (n.forward, (n.address, (n.pending, (n.functions, n.states))))))))
    (λ p. record {
      address_kind = p.0;
      speed_mode = p.1.0;
      step = p.1.1.0;
      forward = p.1.1.1.0;
      address = p.1.1.1.1.0;
      pending = p.1.1.1.1.1.0;
      functions = p.1.1.1.1.1.1.0;
      states = p.1.1.1.1.1.1.1;
    }) (λ _. refl)

Stores-prop : (n : DccLocoRegisters) (r : LocoRegisters) → IsProp (Stores n r)
Stores-prop n r = λ a b i. record {
  possible = Coded-set coded_bool _ _ a.possible b.possible i;
  numbers = Coded-set registers_code _ _ a.numbers b.numbers i;
}

same_held : (n : DccLocoRegisters) (a b : LocoRegisters) → a ≡ b → (h : Stores n a) (k : Stores n b)
    → ◌≡◌ {A = HeldBy n} (a, h) (b, k)
same_held n a b e =
    subst (λ (r : LocoRegisters). (h : Stores n a) (k : Stores n r) → ◌≡◌ {A = HeldBy n} (a, h) (r, k)) e
    (λ h k. ap (λ (m : Stores n a). (a, m)) (Stores-prop n a h k))

-- a structure stores at most one list of registers
pub HeldBy-prop : (n : DccLocoRegisters) → IsProp (HeldBy n)
HeldBy-prop n a b =
    same_held n a.0 b.0
    (one_held a.0 b.0 a.1.possible b.1.possible (sym a.1.numbers ∙ b.1.numbers)) a.1 b.1
