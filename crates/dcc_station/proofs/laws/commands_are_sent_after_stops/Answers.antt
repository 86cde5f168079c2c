use Rattle.dcc_station.proofs.WaitingLemmas.{few_packets_with_stops, in_turn_with_stops}
use Rattle.dcc_station.proofs.laws.commands_are_sent_after_stops.Goals as goal

pub returns : goal.returns
returns c = record { in_turn = in_turn_with_stops; packets = few_packets_with_stops }
