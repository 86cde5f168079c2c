-- A conflict, from its parts.
use Rattle.std.proofs.Common.{◌≡◌, ◌≢◌, refl, sym}
use Rattle.std.specs.Prelude.{Option, None, Some}
use Rattle.dcc_packet.specs.declared.packet.Packet.{Packet}
use Rattle.dcc_regs.specs.declared.register.SpeedMode.{SpeedMode}
use Rattle.dcc_regs.specs.declared.register.Value.{Value}
use Rattle.dcc_regs.specs.Sets.{sets}
use Rattle.dcc_regs.specs.Conflict.{Conflict}
use Rattle.dcc_regs.specs.Effects.{Differ}
use Rattle.dcc_regs.specs.Inner.ConflictParts.{DifferIn, HeardTogether}

record TwoValues (a b : Option Value) : Type 0 where
  one : Value
  other : Value
  first : a ≡ Some one
  second : b ≡ Some other
  apart : one ≢ other

two_values : (a b : Option Value) → Differ a b → TwoValues a b
two_values (Some v) (Some w) d = record { one = v; other = w; first = refl; second = refl; apart = d }
two_values (Some v) None d = absurd d
two_values None b d = absurd d

pub conflict_from : (p q : Packet) → HeardTogether p q → (mode : SpeedMode) × DifferIn mode p q → Conflict p q
conflict_from p q together (mode, differ) =
    let two = two_values (sets mode p differ.register) (sets mode q differ.register) differ.differ in
    record {
      who = together.who;
      first_heard = together.first;
      second_heard = together.second;
      mode = mode;
      register = differ.register;
      one = two.one;
      other = two.other;
      first_sets = two.first;
      second_sets = two.second;
      apart = two.apart;
    }

differ_by : (a b : Option Value) (v w : Value) → a ≡ Some v → b ≡ Some w → v ≢ w → Differ a b
differ_by a b v w e f d = rw (e, f) d

pub differ_of : (p q : Packet) → Conflict p q → (mode : SpeedMode) × DifferIn mode p q
differ_of p q c = (
  c.mode,
  record {
    register = c.register;
    differ =
        differ_by (sets c.mode p c.register) (sets c.mode q c.register) c.one c.other c.first_sets c.second_sets
        c.apart;
  },
)

pub differ-sym : {A : Type 0} (a b : Option A) → Differ a b → Differ b a
differ-sym (Some v) (Some w) d = λ e. d (sym e)
differ-sym (Some v) None d = d
differ-sym None b d = absurd d
