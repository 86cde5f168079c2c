use Rattle.dcc_station.proofs.LaterStops.{commands_wait_with_later_stops}
use Rattle.dcc_station.proofs.laws.commands_are_sent_between_stops.Goals as goal

pub returns : goal.returns
returns c = commands_wait_with_later_stops
