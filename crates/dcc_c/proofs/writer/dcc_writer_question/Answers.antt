use Rattle.dcc_c.proofs.ApplyLemmas.{none_some}
use Rattle.dcc_c.proofs.writer.dcc_writer_question.Goals as goal

pub returns-in-None-clause-asks : goal.returns-in-None-clause-asks
returns-in-None-clause-asks c so_far is =
    absurd (none_some c.taken_up.result so_far c.in-None.is (c.taken_up.ensures.found so_far is))
