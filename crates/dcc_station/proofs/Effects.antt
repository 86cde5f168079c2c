-- What a command leaves, whatever was pending before it.
use Rattle.std.proofs.Common.{◌≡◌, refl, Bool, true, false, cond, Option, arith}
use Rattle.std.specs.Prelude.{◌&&◌, is_some}
use Rattle.dcc_packet.specs.declared.packet.Packet.{Packet}
use Rattle.dcc_regs.specs.declared.register.Register.{Register}
use Rattle.dcc_regs.specs.declared.register.Value.{Value}
use Rattle.dcc_regs.specs.Writes.{is_own_write, writes_cv29}
use Rattle.dcc_regs.specs.Result.{RegisterMap}
use Rattle.dcc_regs.specs.Sets.{sets}
use Rattle.dcc_regs.specs.Setting.{value_over, mode_in}
use Rattle.dcc_regs.specs.Inner.WriteParts.{is_pending}
use Rattle.dcc_packet.proofs.SameFrames.{same-refl}
use Rattle.dcc_regs.proofs.OwnWrites.{sets-own_write}
use Rattle.dcc_regs.proofs.RegisterStep.{overwritten-none}
use Rattle.dcc_regs.proofs.ResultByParts.{State, step, sets_bit, overwritten-twice}
use Rattle.dcc_regs.proofs.LawLemmas.{bit_stays}
use Rattle.dcc_station.specs.Commands.{is_refreshed}
use Rattle.dcc_station.proofs.Tables.{refreshed_is_no_write}

-- the registers but for what is pending. Where no write can be pending, none ever has an effect
pub record Core : Type 0 where
  pub can_wait : Bool
  pub bits : RegisterMap
  pub plain : RegisterMap

abbrev pub core : State → Core
core s = record { can_wait = is_some s.pending; bits = s.bits; plain = s.plain }

pub same_core : (c d : Core) → c.can_wait ≡ d.can_wait → ((r : Register) → c.bits r ≡ d.bits r)
    → ((r : Register) → c.plain r ≡ d.plain r) → c ≡ d
same_core c d w b q = λ i. record { can_wait = w i; bits = λ r. b r i; plain = λ r. q r i }

-- what a packet does in the end: an own write sets its bits, another packet its plain registers
abbrev pub effect : Core → Packet → Core
effect c p = record {
  can_wait = c.can_wait;
  bits = λ r. cond (is_own_write p && c.can_wait) (value_over (c.bits r) (sets_bit p r)) (c.bits r);
  plain = λ r. value_over (c.plain r) (sets (mode_in c.bits) p r);
}

-- one copy of a packet, which the decoder hears or not, and what it leaves in the end
abbrev pub copied : Bool → State → Packet → State
copied heard s p = cond heard (step s p) s

abbrev pub then_effect : Bool → Core → Packet → Core
then_effect heard c p = cond heard (effect c p) c

-- where an own write is heard, it is pending, if a write can be
abbrev pub Waits : Bool → State → Packet → Type 0
Waits true s p = is_own_write p ≡ true → is_pending s.pending p ≡ is_some s.pending
Waits false s p = Unit {0}

pub waits : (heard : Bool) (s : State) (p : Packet) → Waits heard (copied heard s p) p
waits false s p = tt
waits true s p = λ own. grind (arith, same-refl)

-- a decoder that has a pending write has one from then on, and one that has none never gets it
still_waits : (s : State) (p : Packet) → is_some (step s p).pending ≡ is_some s.pending
still_waits s p = grind arith

-- a packet that is no own write has its effect at once
pub at_once : (heard : Bool) (s : State) (p : Packet) → is_own_write p ≡ false
    → core (copied heard s p) ≡ then_effect heard (core s) p
at_once true s p other = same_core _ _ (still_waits s p) (λ r. rw other refl) (λ r. refl)
at_once false s p other = refl

-- an own write has its effect where it is pending, if a write can be
pub at_last : (heard : Bool) (s : State) (p : Packet) → Waits heard s p
    → core (copied heard s p) ≡ then_effect heard (core s) p
at_last false s p waits = refl
at_last true s p waits = same_core _ _ (still_waits s p) (λ r. grind arith) (λ r. refl)

-- what a first write does, a second does alone
twice_plain : (m n : RegisterMap) (v : Option Value) (p : Packet) (r : Register)
    → (is_own_write p ≡ false → mode_in n ≡ mode_in m)
    → value_over (value_over v (sets (mode_in m) p r)) (sets (mode_in n) p r) ≡ value_over v (sets (mode_in m) p r)
twice_plain m n v p r same = grind (arith, sets-own_write, overwritten-none, overwritten-twice, same)

pub mode_other : (c : Core) (p : Packet) → is_own_write p ≡ false → mode_in (effect c p).bits ≡ mode_in c.bits
mode_other c p other = rw other refl

-- a first copy leaves the effect of the next as it was
pub after_first : (heard : Bool) (s : State) (p : Packet)
    → then_effect heard (core (copied heard s p)) p ≡ then_effect heard (core s) p
after_first false s p = refl
after_first true s p = same_core _ _ (still_waits s p)
    (λ r. grind (arith, overwritten-twice))
    (λ r. twice_plain s.bits (step s p).bits (s.plain r) p r (λ other. rw other refl))

-- a packet that has had its effect has none more
pub effect_twice : (heard : Bool) (c : Core) (p : Packet)
    → then_effect heard (then_effect heard c p) p ≡ then_effect heard c p
effect_twice false c p = refl
effect_twice true c p = same_core _ _ refl
    (λ r. grind (arith, overwritten-twice)) (λ r. twice_plain c.bits (effect c p).bits (c.plain r) p r (mode_other c p))

-- an own write sets no plain register, and where it does not write CV29 leaves the mode
pub effect_plain_own : (c : Core) (p : Packet) → is_own_write p ≡ true → (r : Register)
    → (effect c p).plain r ≡ c.plain r
effect_plain_own c p own r = rw (sets-own_write (mode_in c.bits) p r own) (overwritten-none (c.plain r))

pub mode_kept : (c : Core) (p : Packet) → writes_cv29 p ≡ false → mode_in (effect c p).bits ≡ mode_in c.bits
unfolding sets_bit
mode_kept c p none = rw (bit_stays p none) (grind (arith, overwritten-none))

-- an entry whose registers are at its values has no effect
pub no_effect : (c : Core) (e : Packet) → is_refreshed e ≡ true
    → ((r : Register) → value_over (c.plain r) (sets (mode_in c.bits) e r) ≡ c.plain r) → effect c e ≡ c
no_effect c e fresh holds = same_core _ _ refl (λ r. rw (refreshed_is_no_write e fresh) refl) holds
