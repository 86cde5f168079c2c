use Rattle.std.proofs.Common.{◌∙◌, sym, subst}
use Rattle.dcc_station.specs.Sending.{Displaces}
use Rattle.dcc_c.proofs.KeptPacketLemmas.{stays_at_another}
use Rattle.dcc_c.proofs.kept_packet.KeptPacket.is_displaced_by.Goals as goal

pub returns-then-is_for_another : goal.returns-then-is_for_another
returns-then-is_for_another c = (
  λ yes. cc,
  λ gone. absurd (stays_at_another c.in-Loco.to c.in-Loco.what c.args.self.now
      (sym c.is_for_another.ensures ∙ c.if-is_for_another.true)
      (subst (λ p. Displaces p c.args.self.now) c.in-Loco.is gone)),
)
