-- Conflicts between packets.
use Rattle.std.specs.Prelude.{◌≡◌, ◌≢◌, true, Some}
use Rattle.dcc_packet.specs.declared.packet.Packet.{Packet}
use Rattle.dcc_regs.specs.declared.register.Who.{Who}
use Rattle.dcc_regs.specs.declared.register.SpeedMode.{SpeedMode}
use Rattle.dcc_regs.specs.declared.register.Register.{Register}
use Rattle.dcc_regs.specs.declared.register.Value.{Value}
use Rattle.dcc_regs.specs.Heard.{hears}
use Rattle.dcc_regs.specs.Sets.{sets}

-- packets `p` and `q` conflict: some decoder hears both, and in one of the two speed modes they set
-- a register to different values
pub record Conflict (p q : Packet) : Type 0 where
  pub who : Who
  pub first_heard : hears who p ≡ true
  pub second_heard : hears who q ≡ true
  pub mode : SpeedMode
  pub register : Register
  pub one : Value
  pub other : Value
  pub first_sets : sets mode p register ≡ Some one
  pub second_sets : sets mode q register ≡ Some other
  pub apart : one ≢ other
