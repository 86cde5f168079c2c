use Rattle.dcc_c.proofs.LayoutLemmas.{new_framers_are_between_bodies, packets_end_between_bodies}
use Rattle.dcc_c.proofs.laws.framers_are_between_bodies.Goals as goal

pub returns : goal.returns
returns c = record { made = new_framers_are_between_bodies; packet = packets_end_between_bodies }
