-- What one heard packet does to each register.
use Rattle.std.proofs.Common.{◌≡◌, Bool, true, false, [], ◌∷◌, refl, sym, ◌∙◌, ap}
use Rattle.std.specs.Prelude.{Option, None, Some, if◌then◌else◌}
use Rattle.std.specs.List.{cons_option}
use Rattle.dcc_packet.specs.declared.packet.Packet.{Packet}
use Rattle.dcc_regs.specs.declared.register.Who.{Who}
use Rattle.dcc_regs.specs.declared.register.Register.{Register}
use Rattle.dcc_regs.specs.declared.register.Register.TheVariants.{CvBit}
use Rattle.dcc_regs.specs.declared.register.Register.TheVariants.{Pending as PendingRegister}
use Rattle.dcc_regs.specs.declared.register.Value.{Value}
use Rattle.dcc_regs.specs.declared.register.Value.TheVariants.{Pending as PendingValue}
use Rattle.dcc_regs.specs.Heard.{hears}
use Rattle.dcc_regs.specs.Sets.{sets}
use Rattle.dcc_regs.specs.Result.{RegisterMap, set_in_turn, mode_of, result_of_heard, step}
use Rattle.dcc_regs.specs.Setting.{effective_set, left_pending, mode_in, set_from, value_over}
use Rattle.dcc_regs.proofs.InParts.{set_in_turn-nothing}
use Rattle.dcc_regs.proofs.LocoStep.{step-unheard}

set_over : (held set : Option Value) → set_in_turn held (cons_option set []) ≡ value_over held set
set_over (Some start) (Some v) = refl
set_over held set = refl

pub overwritten-none : (held : Option Value) → value_over held None ≡ held
overwritten-none None = refl
overwritten-none (Some start) = refl

plain : (m : RegisterMap) (p : Packet) (r : Register)
    → set_in_turn (m r) (cons_option (sets (mode_of (set_in_turn (m (CvBit 29 1)) [])) p r) []) ≡ value_over (m r)
    (sets (mode_in m) p r)
plain m p r =
    ap (λ held. set_in_turn (m r) (cons_option (sets (mode_of held) p r) [])) (set_in_turn-nothing (m (CvBit 29 1)))
    ∙ set_over (m r) (sets (mode_in m) p r)

-- a heard packet puts what it sets over what stood there
pub heard-sets : (m : RegisterMap) (p : Packet) (r : Register)
    → result_of_heard m (p ∷ []) r ≡ value_over (m r) (set_from m p r)
heard-sets m p PendingRegister = set_over (m PendingRegister) (Some (PendingValue (left_pending p)))
heard-sets m p (CvBit cv place) =
    ap (λ held. set_in_turn (m (CvBit cv place)) (cons_option (effective_set held p cv place) []))
    (set_in_turn-nothing (m PendingRegister))
    ∙ set_over (m (CvBit cv place)) (effective_set (m PendingRegister) p cv place)
heard-sets m p r = plain m p r

by_hearing : (who : Who) (m : RegisterMap) (p : Packet) (r : Register) (t : Bool) → hears who p ≡ t
    → step who m p r ≡ (if t then value_over (m r) (set_from m p r) else m r)
by_hearing who m p r true e = rw e (heard-sets m p r)
by_hearing who m p r false e = ap (λ n. n r) (sym (step-unheard who p m e))

pub step-sets : (who : Who) (m : RegisterMap) (p : Packet) (r : Register)
    → step who m p r ≡ (if hears who p then value_over (m r) (set_from m p r) else m r)
step-sets who m p r = by_hearing who m p r (hears who p) refl

either_way : (t : Bool) (held set : Option Value) → set ≡ None → (if t then value_over held set else held) ≡ held
either_way true held set e = ap (value_over held) e ∙ overwritten-none held
either_way false held set e = refl

-- a register that the packet does not set stays
pub step-keeps : (who : Who) (m : RegisterMap) (p : Packet) (r : Register) → set_from m p r ≡ None
    → step who m p r ≡ m r
step-keeps who m p r e = step-sets who m p r ∙ either_way (hears who p) (m r) (set_from m p r) e

pub kept-after : (who : Who) (m m' : RegisterMap) (p : Packet) → m' ≡ step who m p → (r : Register)
    → set_from m p r ≡ None → m' r ≡ m r
kept-after who m m' p e r none = ap (λ n. n r) e ∙ step-keeps who m p r none
