use Rattle.dcc_service.proofs.LawLemmas.{questions_answered}
use Rattle.dcc_service.proofs.laws.questions_are_answered.Goals as goal

pub returns : goal.returns
returns c = questions_answered
