use Rattle.dcc_lost.proofs.LawLemmas.{unseen_law}
use Rattle.dcc_lost.proofs.laws.no_lost_packet_is_seen.Goals as goal

pub returns : goal.returns
returns c = unseen_law
