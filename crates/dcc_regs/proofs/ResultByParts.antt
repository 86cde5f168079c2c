-- The registers after a list, packet by packet: the pending write, the CV bits and the plain registers, each by itself.
use Rattle.std.proofs.Common.{◌≡◌, ◌∙◌, refl, ap, Bool, true, false, cond, List, [], ◌∷◌, ◌++◌, Option, Some, None}
use Rattle.std.specs.Prelude.{◌&&◌, option_map}
use Rattle.dcc_packet.specs.declared.packet.Packet.{Packet}
use Rattle.dcc_regs.specs.declared.register.Register.{Register}
use Rattle.dcc_regs.specs.declared.register.Register.TheVariants.{CvBit}
use Rattle.dcc_regs.specs.declared.register.Register.TheVariants.{Pending as PendingRegister}
use Rattle.dcc_regs.specs.declared.register.Value.{Value}
use Rattle.dcc_regs.specs.declared.register.Value.TheVariants.{Flag, Pending as PendingValue}
use Rattle.dcc_regs.specs.declared.register.Who.TheVariants.{Loco}
use Rattle.dcc_regs.specs.Sets.{sets}
use Rattle.dcc_regs.specs.Writes.{is_own_write, bit_set}
use Rattle.dcc_regs.specs.Result.{RegisterMap, is_effective, result_of_heard}
use Rattle.dcc_regs.specs.Inner.WriteParts.{is_pending}
use Rattle.dcc_regs.specs.Setting.{left_pending, mode_in, value_over}
use Rattle.dcc_regs.proofs.InParts.{result_of_heard-append, result-nothing}
use Rattle.dcc_regs.proofs.RegisterStep.{heard-sets, overwritten-none}
use Rattle.dcc_regs.proofs.WritesInParts.{effective_in_parts}

-- the second of two values that were set one after the other, where it was set
abbrev pub later_of : {X : Type 0} → Option X → Option X → Option X
later_of first None = first
later_of first (Some x) = Some x

-- the value that the last item gives of those that give one
abbrev pub last_set : {X : Type 0} → (X → Option Value) → List X → Option Value
last_set gives [] = None
last_set gives (x ∷ later) = later_of (gives x) (last_set gives later)

-- the constant that a write sets a CV bit to, where it takes effect
unfoldable pub sets_bit : Packet → Register → Option Value
sets_bit p (CvBit cv place) = option_map Flag (bit_set p cv place)
sets_bit p r = None

-- the registers in three parts
pub record State : Type 0 where
  pub pending : Option Value
  pub bits : RegisterMap
  pub plain : RegisterMap

-- what is pending after one more packet that is heard: a decoder that has no such register never gets it
abbrev pub pending_step : State → Packet → Option Value
pending_step s p = value_over s.pending (Some (PendingValue (left_pending p)))

abbrev pub bits_step : State → Packet → RegisterMap
bits_step s p r = cond (is_own_write p && is_pending s.pending p) (value_over (s.bits r) (sets_bit p r)) (s.bits r)

-- the registers after one more packet that is heard
abbrev pub step : State → Packet → State
step s p = record {
  pending = pending_step s p;
  bits = bits_step s p;
  plain = λ r. value_over (s.plain r) (sets (mode_in s.bits) p r);
}

-- the state after a list of packets that are heard
abbrev pub state_after : State → List Packet → State
state_after s [] = s
state_after s (p ∷ later) = state_after (step s p) later

abbrev pub bits_only : RegisterMap → RegisterMap
bits_only m (CvBit cv place) = m (CvBit cv place)
bits_only m r = None

abbrev pub plain_only : RegisterMap → RegisterMap
plain_only m (CvBit cv place) = None
plain_only m PendingRegister = None
plain_only m r = m r

-- a map, taken apart
abbrev pub start : RegisterMap → State
start m = record { pending = m PendingRegister; bits = bits_only m; plain = plain_only m }

-- a register in a state
abbrev pub read : State → RegisterMap
read s (CvBit cv place) = s.bits (CvBit cv place)
read s PendingRegister = s.pending
read s r = s.plain r

-- states with the same parts are the same
pub same_state : (s t : State) → s.pending ≡ t.pending → ((r : Register) → s.bits r ≡ t.bits r)
    → ((r : Register) → s.plain r ≡ t.plain r) → s ≡ t
same_state s t p b q = λ i. record { pending = p i; bits = λ r. b r i; plain = λ r. q r i }

pub state_after-append : (s : State) (a b : List Packet) → state_after s (a ++ b) ≡ state_after (state_after s a) b
state_after-append s [] b = refl
state_after-append s (p ∷ a) b = state_after-append (step s p) a b

pub overwritten-overwritten : (v a b : Option Value) → value_over (value_over v a) b ≡ value_over v (later_of a b)
overwritten-overwritten None a b = refl
overwritten-overwritten (Some v) a None = refl
overwritten-overwritten (Some v) a (Some b) = refl

later_of-twice : (o : Option Value) → later_of o o ≡ o
later_of-twice None = refl
later_of-twice (Some v) = refl

-- the same value again changes nothing
pub overwritten-twice : (v o : Option Value) → value_over (value_over v o) o ≡ value_over v o
overwritten-twice v o = overwritten-overwritten v o o ∙ ap (value_over v) (later_of-twice o)

-- a value is put over another, or it is not
where_set : (t : Bool) (held o : Option Value) → value_over held (cond t o None) ≡ cond t (value_over held o) held
where_set true held o = refl
where_set false held o = overwritten-none held

abbrev nothing : Option Value
nothing = None

none_either : (t : Bool) → nothing ≡ cond t nothing nothing
none_either true = refl
none_either false = refl

abbrev next : RegisterMap → Packet → RegisterMap
next m p = result_of_heard m (p ∷ [])

start-next : (m : RegisterMap) (p : Packet) → start (next m p) ≡ step (start m) p
unfolding sets_bit
start-next m p = same_state (start (next m p)) (step (start m) p) (heard-sets m p PendingRegister) at_bit at_plain
  where
    at_bit : (r : Register) → bits_only (next m p) r ≡ bits_step (start m) p r
    at_bit (CvBit cv place) =
        heard-sets m p (CvBit cv place)
        ∙ where_set (is_effective (m PendingRegister) p) (m (CvBit cv place)) (option_map Flag (bit_set p cv place))
        ∙ ap (λ t. cond t (value_over (m (CvBit cv place)) (option_map Flag (bit_set p cv place))) (m (CvBit cv place)))
        (effective_in_parts (m PendingRegister) p)
    at_bit r = none_either (is_own_write p && is_pending (m PendingRegister) p)

    at_plain : (r : Register)
        → plain_only (next m p) r ≡ value_over (plain_only m r) (sets (mode_in (bits_only m)) p r)
    at_plain (CvBit cv place) = refl
    at_plain PendingRegister = refl
    at_plain r = heard-sets m p r

read-start : (m : RegisterMap) (r : Register) → m r ≡ read (start m) r
read-start m PendingRegister = refl
read-start m r = refl

-- the registers after a list are those that its packets leave one by one, whatever they are at the start
pub read-state_after : (m : RegisterMap) (l : List Packet) (r : Register)
    → result_of_heard m l r ≡ read (state_after (start m) l) r
read-state_after m [] r = ap (λ n. n r) (result-nothing (Loco None) m) ∙ read-start m r
read-state_after m (p ∷ l) r =
    result_of_heard-append m (p ∷ []) l r
    ∙ read-state_after (next m p) l r
    ∙ ap (λ s. read (state_after s l) r) (start-next m p)
