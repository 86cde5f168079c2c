use Rattle.std.proofs.Common.{arith}
use Rattle.dcc_station.specs.Commands.{is_refreshed}
use Rattle.dcc_station.proofs.laws.states_are_no_entries.Goals as goal

pub returns : goal.returns
unfolding is_refreshed
returns c = λ to number on. grind arith
