use Rattle.dcc_service.proofs.LawLemmas.{kept_stay}
use Rattle.dcc_service.proofs.laws.cv7_and_cv8_are_kept.Goals as goal

pub returns : goal.returns
returns c = kept_stay
