use Rattle.dcc_wire.proofs.OutcomeRows.{outcomes-rows, no_outcome-unfinished}
use Rattle.dcc_wire.proofs.laws.outcomes_are_the_rows_of_the_table.Goals as goal

pub returns-clause-rows : goal.returns-clause-rows
returns-clause-rows c = outcomes-rows

pub returns-clause-unfinished : goal.returns-clause-unfinished
returns-clause-unfinished c = no_outcome-unfinished
