use Rattle.dcc_c.proofs.halves.dcc_halves.Goals as goal

pub returns-in-Ok-Some-clause-sent : goal.returns-in-Ok-Some-clause-sent
returns-in-Ok-Some-clause-sent c =
    λ h. (c.in-Ok-Some.timing, c.in-Ok-Some.ensures'.timing, c.put_halves.ensures.halves)
