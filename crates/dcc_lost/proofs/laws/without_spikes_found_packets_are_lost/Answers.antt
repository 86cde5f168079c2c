use Rattle.dcc_lost.proofs.FoundCauseLaw.{found_is_lost}
use Rattle.dcc_lost.proofs.laws.without_spikes_found_packets_are_lost.Goals as goal

pub returns : goal.returns
returns c = found_is_lost
