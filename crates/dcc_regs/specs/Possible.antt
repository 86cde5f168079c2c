-- The possible identities and registers of decoders. The function `restore` accepts exactly the
-- states with possible identities and registers.
use Rattle.std.specs.Prelude.{◌≡◌, Bool, true, false, not, ◌&&◌, nat_le, Option, None, Some}
use Rattle.dcc_regs.specs.declared.register.Who.{Who}
use Rattle.dcc_regs.specs.declared.register.Who.TheVariants.{Loco as LocoWho, Board as BoardWho}
use Rattle.dcc_regs.specs.declared.register.Register.{Register}
use Rattle.dcc_regs.specs.declared.register.Register.TheVariants.{Speed as SpeedRegister, Direction, Function}
use Rattle.dcc_regs.specs.declared.register.Register.TheVariants.{State as StateRegister, CvBit}
use Rattle.dcc_regs.specs.declared.register.Register.TheVariants.{Pending as PendingRegister, Out, Position, Aspect}
use Rattle.dcc_regs.specs.declared.register.Value.{Value}
use Rattle.dcc_regs.specs.declared.register.Value.TheVariants.{Speed as SpeedValue, Forward, Flag, Number}
use Rattle.dcc_regs.specs.declared.register.Value.TheVariants.{Pending as PendingValue}
use Rattle.dcc_regs.specs.Addresses.{is_active}
use Rattle.dcc_regs.specs.States.{is_binary_state}
use Rattle.dcc_regs.specs.Loco.{is_speed, is_pending_for, is_function, is_cv_bit}
use Rattle.dcc_regs.specs.Result.{RegisterMap}

-- true if a decoder can have this identity: an address other than the broadcast, or a board number
-- up to 510
abbrev pub is_decoder : Who → Bool
is_decoder (LocoWho active) = is_active active
is_decoder (BoardWho own) = nat_le own.number 510

-- true if register `r` of a decoder can have the given value. If the decoder does not have the
-- register, its only possible value is `None`.
abbrev pub may_hold : Who → Register → Option Value → Bool
may_hold (LocoWho active) SpeedRegister (Some (SpeedValue speed)) = is_speed speed
may_hold (LocoWho active) Direction (Some (Forward forward)) = true
may_hold (LocoWho active) (Function n) (Some (Flag on)) = is_function n
may_hold (LocoWho active) (Function n) None = not (is_function n)
may_hold (LocoWho active) (StateRegister n) (Some (Flag on)) = is_binary_state n
may_hold (LocoWho active) (StateRegister n) None = not (is_binary_state n)
may_hold (LocoWho active) (CvBit cv place) (Some (Flag one)) = is_cv_bit cv place
may_hold (LocoWho active) (CvBit cv place) None = not (is_cv_bit cv place)
may_hold (LocoWho active) PendingRegister (Some (PendingValue pending)) = is_pending_for active pending
may_hold (LocoWho active) (Out n) None = true
may_hold (LocoWho active) (Position n) None = true
may_hold (LocoWho active) (Aspect n) None = true
may_hold (BoardWho own) (Out n) (Some (Flag on)) = nat_le n 7
may_hold (BoardWho own) (Out n) None = not (nat_le n 7)
may_hold (BoardWho own) (Position n) (Some (Number k)) = nat_le n 3 && nat_le k 1
may_hold (BoardWho own) (Position n) None = not (nat_le n 3)
may_hold (BoardWho own) (Aspect n) (Some (Number aspect)) = nat_le n 3 && nat_le aspect 255
may_hold (BoardWho own) (Aspect n) None = not (nat_le n 3)
may_hold (BoardWho own) SpeedRegister None = true
may_hold (BoardWho own) Direction None = true
may_hold (BoardWho own) (Function n) None = true
may_hold (BoardWho own) (StateRegister n) None = true
may_hold (BoardWho own) (CvBit cv place) None = true
may_hold (BoardWho own) PendingRegister None = true
may_hold who r held = false

-- a decoder can have the identity `who` and the registers `m`
pub record IsPossible (who : Who) (m : RegisterMap) : Type 0 where
  pub decoder : is_decoder who ≡ true
  pub registers : (r : Register) → may_hold who r (m r) ≡ true
