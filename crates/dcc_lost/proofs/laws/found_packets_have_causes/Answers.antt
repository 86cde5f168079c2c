use Rattle.dcc_lost.proofs.FoundCauseLaw.{found_cause_law}
use Rattle.dcc_lost.proofs.laws.found_packets_have_causes.Goals as goal

pub returns : goal.returns
returns c = found_cause_law
