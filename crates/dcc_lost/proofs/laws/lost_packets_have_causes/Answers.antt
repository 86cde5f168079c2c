use Rattle.dcc_lost.proofs.CauseLaw.{cause_law}
use Rattle.dcc_lost.proofs.laws.lost_packets_have_causes.Goals as goal

pub returns : goal.returns
returns c = cause_law
