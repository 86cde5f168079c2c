use Rattle.std.proofs.Common.{◌∷◌, [], List, ℕ, ap, refl}
use Rattle.dcc_order.proofs.FleetLemmas.{none_hears}
use Rattle.dcc_order.proofs.HearingLemmas.{one_packet}
use Rattle.dcc_wire.specs.declared.seen.Seen.TheVariants.{Nothing, Refused}
use Rattle.dcc_order.proofs.hearing.hear_seen.Goals as goal

pub returns-in-Packet : goal.returns-in-Packet
returns-in-Packet g c = record {
  spelled = (c.read.result ∷ [], rw c.in-Packet.is (ap (λ (frame : List ℕ). frame ∷ []) c.read.ensures.spelled));
  each = λ packets spelled.
      rw (one_packet packets c.in-Packet.frame c.read.result c.read.ensures.only (rw c.in-Packet.is at spelled))
      c.hear_packet.ensures;
}

pub returns-in-Nothing : goal.returns-in-Nothing
returns-in-Nothing g c = rw c.in-Nothing.is (none_hears Nothing _ refl)

pub returns-in-Refused : goal.returns-in-Refused
returns-in-Refused g c = rw c.in-Refused.is (none_hears (Refused _) _ refl)
