use Rattle.std.proofs.Common.{List, ℕ, ◌∷◌, ap}
use Rattle.dcc_packet.specs.declared.address.Address.TheVariants.{Broadcast}
use Rattle.dcc_plain.proofs.packet_from_bytes.cv_access.Goals as goal

pub returns-in-None-clause-none : goal.returns-in-None-clause-none
returns-in-None-clause-none c = λ what e. c.in-None.ensures.none Broadcast what (ap (λ (l : List ℕ). 0 ∷ l) e)
