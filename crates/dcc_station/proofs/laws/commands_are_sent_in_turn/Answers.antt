use Rattle.dcc_station.proofs.WaitingLemmas.{in_turn}
use Rattle.dcc_station.proofs.laws.commands_are_sent_in_turn.Goals as goal

pub returns : goal.returns
returns c = in_turn
