-- A locomotive decoder has a speed and an accessory decoder has none, so they never hold the same registers.
use Rattle.std.proofs.Common.{◌≡◌, true, ◌∙◌, ap, refl}
use Rattle.std.specs.Prelude.{Option, None, Some}
use Rattle.dcc_packet.specs.declared.address.Address.{Address}
use Rattle.dcc_packet.specs.declared.accessory.Board.{Board as OwnBoard}
use Rattle.dcc_regs.specs.declared.register.Who.TheVariants.{Loco as LocoWho, Board as BoardWho}
use Rattle.dcc_regs.specs.declared.register.Register.TheVariants.{Speed as SpeedRegister}
use Rattle.dcc_regs.specs.declared.register.Value.{Value}
use Rattle.dcc_regs.specs.Result.{RegisterMap}
use Rattle.dcc_regs.specs.Possible.{IsPossible, may_hold}

board_lacks_speed : (own : OwnBoard) (o : Option Value) → may_hold (BoardWho own) SpeedRegister o ≡ true → o ≡ None
board_lacks_speed own None h = refl
board_lacks_speed own (Some v) h = absurd (cc)

loco_has_speed : (a : Option Address) (o : Option Value) → may_hold (LocoWho a) SpeedRegister o ≡ true → o ≡ None → ⊥
loco_has_speed a None h e = cc
loco_has_speed a (Some v) h e = cc

pub kinds_differ : (a : Option Address) (b : OwnBoard) (m n : RegisterMap) → IsPossible (LocoWho a) m
    → IsPossible (BoardWho b) n → m ≡ n → ⊥
kinds_differ a b m n p q e =
    loco_has_speed a (m SpeedRegister) (p.registers SpeedRegister)
    (ap (λ f. f SpeedRegister) e ∙ board_lacks_speed b (n SpeedRegister) (q.registers SpeedRegister))
