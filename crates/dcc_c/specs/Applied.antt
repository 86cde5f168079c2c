-- A decoder that has applied a packet.
use Rattle.std.specs.Prelude.{◌≡◌, None, false}
use Rattle.dcc_packet.specs.declared.packet.Packet.{Packet}
use Rattle.dcc_regs.specs.declared.register.Register.{Register}
use Rattle.dcc_regs.specs.declared.register.Who.{Who}
use Rattle.dcc_regs.specs.Heard.{hears}
use Rattle.dcc_regs.specs.Result.{RegisterMap, step}
use Rattle.dcc_regs.specs.Setting.{set_from}

-- a decoder has applied `packet`: its identity is unchanged, and its registers changed from
-- `before` to `after`. Each register that `packet` does not set is unchanged. If the decoder does
-- not hear `packet`, all its registers are unchanged.
pub record HasApplied (packet : Packet) (who : Who) (before : RegisterMap) (who' : Who) (after : RegisterMap) : Type 0
  where
    pub same_who : who' ≡ who
    pub step : after ≡ step who before packet
    pub unheard : hears who packet ≡ false → after ≡ before
    pub kept : (r : Register) → set_from before packet r ≡ None → after r ≡ before r
