use Rattle.dcc_examples.proofs.programmer.read_cv.Goals as goal

pub returns-in-NoAnswer-clause-value : goal.returns-in-NoAnswer-clause-value
returns-in-NoAnswer-clause-value g c =
    absurd (c.readings_under_way.ensures.is_answered _ _ _ _ _ _ _ c.questions.invariant c.question.ensures.question
    c.put-yes.ensures c.in-NoAnswer.ensures)
