use Rattle.dcc_wire.proofs.OutcomeRows.{some-row, one-row, no_row-unfinished}
use Rattle.dcc_wire.proofs.laws.exactly_one_row_of_the_table_fits.Goals as goal

pub returns-clause-some : goal.returns-clause-some
returns-clause-some c = some-row

pub returns-clause-one : goal.returns-clause-one
returns-clause-one c = one-row

pub returns-clause-unfinished : goal.returns-clause-unfinished
returns-clause-unfinished c = no_row-unfinished
