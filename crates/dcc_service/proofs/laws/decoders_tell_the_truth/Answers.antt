use Rattle.dcc_service.proofs.ReadingLemmas.{next_is_true, asks_only}
use Rattle.dcc_service.proofs.laws.decoders_tell_the_truth.Goals as goal

pub returns-clause-answers : goal.returns-clause-answers
returns-clause-answers c = next_is_true

pub returns-clause-cvs : goal.returns-clause-cvs
returns-clause-cvs c = asks_only
