use Rattle.dcc_lost.proofs.SingleLemmas.{singles_law}
use Rattle.dcc_lost.proofs.laws.only_spikes_are_joined.Goals as goal

pub returns : goal.returns
returns c = singles_law
