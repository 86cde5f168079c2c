-- Values can be told apart.
use Rattle.std.proofs.Common.{◌≡◌, Bool, true, false, ap, sym, ◌∙◌, refl, eqb, Some, None}
use Rattle.std.specs.Bool.{Decides}
use Rattle.std.proofs.lemmas.Bool.Decides.{Decides-eqb}
use Rattle.dcc_packet.specs.declared.packet.Packet.{Packet}
use Rattle.dcc_packet.specs.SamePacket.{same}
use Rattle.dcc_packet.proofs.SameFrames.{Decides-same}
use Rattle.dcc_regs.specs.declared.register.Speed.{Speed}
use Rattle.dcc_regs.specs.declared.register.Speed.TheVariants.{Stop, Emergency, Step14, Step28, Step126}
use Rattle.dcc_regs.specs.declared.register.Value.{Value}
use Rattle.dcc_regs.specs.declared.register.Value.TheVariants.{Speed as SpeedValue, Forward, Flag, Number}
use Rattle.dcc_regs.specs.declared.register.Value.TheVariants.{Pending as PendingValue}

abbrev same_flag : Bool → Bool → Bool
same_flag true true = true
same_flag false false = true
same_flag a b = false

abbrev same_speed : Speed → Speed → Bool
same_speed Stop Stop = true
same_speed Emergency Emergency = true
same_speed (Step14 n) (Step14 m) = eqb n m
same_speed (Step28 n) (Step28 m) = eqb n m
same_speed (Step126 n) (Step126 m) = eqb n m
same_speed a b = false

-- whether two values are the same
abbrev pub same_value : Value → Value → Bool
same_value (SpeedValue a) (SpeedValue b) = same_speed a b
same_value (Forward a) (Forward b) = same_flag a b
same_value (Flag a) (Flag b) = same_flag a b
same_value (Number n) (Number m) = eqb n m
same_value (PendingValue None) (PendingValue None) = true
same_value (PendingValue (Some p)) (PendingValue (Some q)) = same p q
same_value a b = false

flag_there : (a b : Bool) → same_flag a b ≡ true → a ≡ b
flag_there true true e = refl
flag_there false false e = refl
flag_there a b e = absurd (cc)

flag_self : (a : Bool) → same_flag a a ≡ true
flag_self true = refl
flag_self false = refl

speed_there : (a b : Speed) → same_speed a b ≡ true → a ≡ b
speed_there Stop Stop e = refl
speed_there Emergency Emergency e = refl
speed_there (Step14 n) (Step14 m) e = ap Step14 ((Decides-eqb n m).0 e)
speed_there (Step28 n) (Step28 m) e = ap Step28 ((Decides-eqb n m).0 e)
speed_there (Step126 n) (Step126 m) e = ap Step126 ((Decides-eqb n m).0 e)
speed_there a b e = absurd (cc)

speed_self : (a : Speed) → same_speed a a ≡ true
speed_self Stop = refl
speed_self Emergency = refl
speed_self (Step14 n) = (Decides-eqb n n).1 refl
speed_self (Step28 n) = (Decides-eqb n n).1 refl
speed_self (Step126 n) = (Decides-eqb n n).1 refl

value_there : (a b : Value) → same_value a b ≡ true → a ≡ b
value_there (SpeedValue a) (SpeedValue b) e = ap SpeedValue (speed_there a b e)
value_there (Forward a) (Forward b) e = ap Forward (flag_there a b e)
value_there (Flag a) (Flag b) e = ap Flag (flag_there a b e)
value_there (Number n) (Number m) e = ap Number ((Decides-eqb n m).0 e)
value_there (PendingValue None) (PendingValue None) e = refl
value_there (PendingValue (Some p)) (PendingValue (Some q)) e =
    ap (λ (r : Packet). PendingValue (Some r)) ((Decides-same p q).0 e)
value_there a b e = absurd (cc)

value_self : (a : Value) → same_value a a ≡ true
value_self (SpeedValue a) = speed_self a
value_self (Forward a) = flag_self a
value_self (Flag a) = flag_self a
value_self (Number n) = (Decides-eqb n n).1 refl
value_self (PendingValue None) = refl
value_self (PendingValue (Some p)) = (Decides-same p p).1 refl

pub Decides-same_value : (v w : Value) → Decides (same_value v w) (v ≡ w)
Decides-same_value v w = (value_there v w, λ e. ap (same_value v) (sym e) ∙ value_self v)
