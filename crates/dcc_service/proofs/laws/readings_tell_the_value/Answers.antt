use Rattle.dcc_service.proofs.ReadingLemmas.{truth_is_the_value, silence_is_no_answer}
use Rattle.dcc_service.proofs.laws.readings_tell_the_value.Goals as goal

pub returns-clause-value : goal.returns-clause-value
returns-clause-value c = truth_is_the_value

pub returns-clause-silence : goal.returns-clause-silence
returns-clause-silence c = silence_is_no_answer
