use Rattle.dcc_lost.proofs.LawLemmas.{lost_law}
use Rattle.dcc_lost.proofs.laws.lost_packets_are_the_definition.Goals as goal

pub returns : goal.returns
returns c = lost_law
