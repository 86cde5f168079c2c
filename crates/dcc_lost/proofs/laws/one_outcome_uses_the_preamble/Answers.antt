use Rattle.dcc_lost.proofs.CalmLemmas.{calm_law}
use Rattle.dcc_lost.proofs.laws.one_outcome_uses_the_preamble.Goals as goal

pub returns : goal.returns
returns c = calm_law
