use Rattle.dcc_c.proofs.loco_numbers.are_possible.Goals as goal

pub returns-clause-possible : goal.returns-clause-possible
returns-clause-possible c possible own has =
    let p = c.has_pending.ensures.pending c.if-not-has_pending.false own has in
    c.are_possible_with_pending.ensures.possible possible own p.0 has p.1 p.2
