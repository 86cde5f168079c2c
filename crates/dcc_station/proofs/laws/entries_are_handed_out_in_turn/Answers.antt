use Rattle.dcc_station.proofs.EntriesInTurn.{in_turn}
use Rattle.dcc_station.proofs.laws.entries_are_handed_out_in_turn.Goals as goal

pub returns : goal.returns
returns c = in_turn
