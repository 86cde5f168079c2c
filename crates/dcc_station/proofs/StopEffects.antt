-- What a stop between two copies of a command leaves.
use Rattle.std.proofs.Common.{◌≡◌, ◌∙◌, refl, ap, Bool, true, false, Option, Some, None, arith}
use Rattle.dcc_packet.specs.declared.packet.Packet.{Packet}
use Rattle.dcc_regs.specs.declared.register.Register.{Register}
use Rattle.dcc_regs.specs.declared.register.Register.TheVariants.{Speed as SpeedRegister, Direction, Function, State}
use Rattle.dcc_regs.specs.declared.register.Register.TheVariants.{CvBit, Pending, Out, Position, Aspect}
use Rattle.dcc_regs.specs.declared.register.SpeedMode.{SpeedMode}
use Rattle.dcc_regs.specs.declared.register.Value.{Value}
use Rattle.dcc_regs.specs.Writes.{is_own_write}
use Rattle.dcc_regs.specs.Sets.{sets}
use Rattle.dcc_regs.specs.Setting.{value_over, mode_in}
use Rattle.dcc_regs.proofs.OwnWrites.{sets-own_write}
use Rattle.dcc_regs.proofs.RegisterStep.{overwritten-none}
use Rattle.dcc_regs.proofs.ResultByParts.{overwritten-twice}
use Rattle.dcc_station.specs.Sending.{stop_packet}
use Rattle.dcc_station.proofs.Effects.{Core, effect, then_effect, same_core, effect_twice, mode_other}

-- the stop sets the same registers in both speed modes
stop_sets : (m n : SpeedMode) (r : Register) → sets m stop_packet r ≡ sets n stop_packet r
stop_sets m n SpeedRegister = refl
stop_sets m n Direction = refl
stop_sets m n (Function k) = refl
stop_sets m n (State k) = refl
stop_sets m n (CvBit cv place) = refl
stop_sets m n Pending = refl
stop_sets m n (Out k) = refl
stop_sets m n (Position k) = refl
stop_sets m n (Aspect k) = refl

-- a value, another, and the first again
around : (v a b : Option Value) → value_over (value_over (value_over v a) b) a ≡ value_over (value_over v b) a
around None a b = refl
around (Some v) None None = refl
around (Some v) None (Some b) = refl
around (Some v) (Some a) b = refl

-- a command, the stop and the command leave what the stop and the command leave
again_plain : (c : Core) (p : Packet) (r : Register) → (own : Bool) → is_own_write p ≡ own
    → (effect (effect (effect c p) stop_packet) p).plain r ≡ (effect (effect c stop_packet) p).plain r
again_plain c p r true own =
    let bits = (effect c p).bits in
    rw (sets-own_write (mode_in c.bits) p r own, sets-own_write (mode_in bits) p r own)
    (ap (λ o. value_over (value_over o (sets (mode_in bits) stop_packet r)) None) (overwritten-none (c.plain r))
    ∙ ap (λ o. value_over (value_over (c.plain r) o) None) (stop_sets (mode_in bits) (mode_in c.bits) r))
again_plain c p r false other =
    rw (mode_other c p other)
    (around (c.plain r) (sets (mode_in c.bits) p r) (sets (mode_in c.bits) stop_packet r))

again_effect : (c : Core) (p : Packet)
    → effect (effect (effect c p) stop_packet) p ≡ effect (effect c stop_packet) p
again_effect c p =
    same_core _ _ refl (λ r. grind (arith, overwritten-twice)) (λ r. again_plain c p r (is_own_write p) refl)

pub again : (h g : Bool) (c : Core) (p : Packet)
    → then_effect g (then_effect h (then_effect g c p) stop_packet) p
    ≡ then_effect g (then_effect h c stop_packet) p
again true true c p = again_effect c p
again true false c p = refl
again false true c p = effect_twice true c p
again false false c p = refl
