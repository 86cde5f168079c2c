use Rattle.dcc_c.proofs.ApplyLemmas.{none_some}
use Rattle.dcc_c.proofs.writer.dcc_writer_answer.Goals as goal

pub returns-in-None-clause-comes : goal.returns-in-None-clause-comes
returns-in-None-clause-comes c so_far is =
    absurd (none_some c.taken_up.result so_far c.in-None.is (c.taken_up.ensures.found so_far is))
