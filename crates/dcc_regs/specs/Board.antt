-- The registers of an accessory decoder and their start values.
use Rattle.std.specs.Prelude.{◌≡◌, ◌≤◌, ℕ, Bool, false, nat_le, None, Some, unwrap_or, if◌then◌else◌}
use Rattle.dcc_packet.specs.declared.packet.Packet.{Packet}
use Rattle.dcc_regs.specs.declared.register.Register.TheVariants.{Out, Position, Aspect}
use Rattle.dcc_regs.specs.declared.register.Value.TheVariants.{Flag, Number}
use Rattle.dcc_regs.specs.Outputs.{out_set, position_set, aspect_set, side}
use Rattle.dcc_regs.specs.Result.{RegisterMap}

-- the content of an accessory decoder. `outs` gives the outputs, `positions` the side of each pair
-- of outputs (true is side 1), and `aspects` the aspect of each signal.
pub record BoardContent : Type 0 where
  pub outs : ℕ → Bool
  pub positions : ℕ → Bool
  pub aspects : ℕ → ℕ

-- the registers of an accessory decoder with content `d`. A register that an accessory decoder does
-- not have is `None`.
abbrev pub board_registers : BoardContent → RegisterMap
board_registers d (Out n) = if nat_le n 7 then Some (Flag (d.outs n)) else None
board_registers d (Position n) = if nat_le n 3 then Some (side (d.positions n)) else None
board_registers d (Aspect n) = if nat_le n 3 then Some (Number (d.aspects n)) else None
board_registers d x = None

-- packet `p` changes the content of an accessory decoder from `d` to `d'`. Each register that `p`
-- sets has the value of `p`, and every other register is unchanged.
pub record TakesPacket (p : Packet) (d d' : BoardContent) : Type 0 where
  pub outs : (n : ℕ) → n ≤ 7 → d'.outs n ≡ unwrap_or (out_set p n) (d.outs n)
  pub positions : (n : ℕ) → n ≤ 3 → d'.positions n ≡ unwrap_or (position_set p n) (d.positions n)
  pub aspects : (n : ℕ) → n ≤ 3 → d'.aspects n ≡ unwrap_or (aspect_set p n) (d.aspects n)

-- the content of a new accessory decoder: all outputs are off, all pairs are at side 0, and all
-- aspects are 0
abbrev pub made : BoardContent
made = record { outs = λ n. false; positions = λ n. false; aspects = λ n. 0 }

-- the registers of an accessory decoder after power-up. `m` are its registers before. All outputs
-- are off, and every other register is unchanged.
abbrev pub board_powered_up : RegisterMap → RegisterMap
board_powered_up m (Out n) = board_registers made (Out n)
board_powered_up m r = m r
