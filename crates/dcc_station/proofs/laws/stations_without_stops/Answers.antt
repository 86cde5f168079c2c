use Rattle.dcc_station.proofs.StopsObeyed.{no_stop_waits, represent_obey}
use Rattle.dcc_station.proofs.laws.stations_without_stops.Goals as goal

pub returns : goal.returns
returns c = record { obey = represent_obey; no_stop = no_stop_waits }
