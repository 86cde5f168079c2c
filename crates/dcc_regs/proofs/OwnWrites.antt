-- A CV write to the own address sets no plain register.
use Rattle.std.proofs.Common.{ℕ, true, ◌≡◌, ◌∙◌, ap, refl, None}
use Rattle.std.specs.Prelude.{option_map}
use Rattle.dcc_packet.specs.declared.address.Address.TheVariants.{Broadcast}
use Rattle.dcc_packet.specs.declared.instruction.What.TheVariants.{CvWrite, CvBitWrite}
use Rattle.dcc_packet.specs.declared.packet.Packet.{Packet}
use Rattle.dcc_packet.specs.declared.packet.Packet.TheVariants.{Loco}
use Rattle.dcc_regs.specs.declared.register.SpeedMode.{SpeedMode}
use Rattle.dcc_regs.specs.declared.register.Register.{Register}
use Rattle.dcc_regs.specs.declared.register.Register.TheVariants.{Speed as SpeedRegister, Direction, Function}
use Rattle.dcc_regs.specs.declared.register.Register.TheVariants.{State as StateRegister}
use Rattle.dcc_regs.specs.declared.register.Register.TheVariants.{Out, Position, Aspect}
use Rattle.dcc_regs.specs.declared.register.Value.TheVariants.{Speed as SpeedValue, Forward, Flag, Number}
use Rattle.dcc_regs.specs.Speeds.{speed_set, direction_set}
use Rattle.dcc_regs.specs.FunctionBits.{function_set}
use Rattle.dcc_regs.specs.States.{state_set}
use Rattle.dcc_regs.specs.Outputs.{out_set, position_set, aspect_set, side}
use Rattle.dcc_regs.specs.Sets.{sets}
use Rattle.dcc_regs.specs.Inner.SetsByKind.{sets_by_kind}
use Rattle.dcc_regs.specs.Writes.{is_own_write}
use Rattle.dcc_regs.proofs.OneTable.{same_table}

pub none_of : (mode : SpeedMode) (p : Packet) (r : Register) → speed_set mode p ≡ None → direction_set p ≡ None
    → ((n : ℕ) → function_set mode p n ≡ None) → ((n : ℕ) → state_set p n ≡ None)
    → ((n : ℕ) → out_set p n ≡ None) → ((n : ℕ) → position_set p n ≡ None) → ((n : ℕ) → aspect_set p n ≡ None)
    → sets_by_kind mode p r ≡ None
none_of mode p SpeedRegister a b c s d f g = ap (option_map SpeedValue) a
none_of mode p Direction a b c s d f g = ap (option_map Forward) b
none_of mode p (Function n) a b c s d f g = ap (option_map Flag) (c n)
none_of mode p (StateRegister n) a b c s d f g = ap (option_map Flag) (s n)
none_of mode p (Out n) a b c s d f g = ap (option_map Flag) (d n)
none_of mode p (Position n) a b c s d f g = ap (option_map side) (f n)
none_of mode p (Aspect n) a b c s d f g = ap (option_map Number) (g n)
none_of mode p r a b c s d f g = refl

-- an own write sets no plain register
pub sets-own_write : (mode : SpeedMode) (p : Packet) (register : Register) → is_own_write p ≡ true
    → sets mode p register ≡ None
sets-own_write mode (Loco Broadcast what) r e = cc
sets-own_write mode (Loco to (CvWrite cv value)) r e =
    same_table mode (Loco to (CvWrite cv value)) r
    ∙ none_of mode (Loco to (CvWrite cv value)) r refl refl (λ n. refl) (λ n. refl) (λ n. refl) (λ n. refl) (λ n. refl)
sets-own_write mode (Loco to (CvBitWrite cv place one)) r e =
    same_table mode (Loco to (CvBitWrite cv place one)) r
    ∙ none_of mode (Loco to (CvBitWrite cv place one)) r refl refl (λ n. refl) (λ n. refl) (λ n. refl) (λ n. refl)
    (λ n. refl)
sets-own_write mode p r e = cc
