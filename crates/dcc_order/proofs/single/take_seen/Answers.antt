use Rattle.std.proofs.Common.{◌∷◌, [], List, ℕ, ap, refl}
use Rattle.dcc_regs.proofs.InParts.{heard_nothing}
use Rattle.dcc_order.proofs.single.take_seen.Goals as goal

pub returns-in-Packet : goal.returns-in-Packet
returns-in-Packet g c = (
  c.read.result ∷ [],
  rw c.in-Packet.is (ap (λ (frame : List ℕ). frame ∷ []) c.read.ensures.spelled),
  record { same_who = c.apply.ensures.same_who; registers = c.apply.ensures.step },
)

pub returns-in-Nothing : goal.returns-in-Nothing
returns-in-Nothing g c = ([], rw c.in-Nothing.is refl, heard_nothing _ _)

pub returns-in-Refused : goal.returns-in-Refused
returns-in-Refused g c = ([], rw c.in-Refused.is refl, heard_nothing _ _)
