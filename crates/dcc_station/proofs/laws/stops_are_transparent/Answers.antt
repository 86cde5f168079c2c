use Rattle.dcc_station.proofs.StopsObeyed.{outgoing_is_the_end, transparent}
use Rattle.dcc_station.proofs.laws.stops_are_transparent.Goals as goal

pub returns : goal.returns
returns c = record { transparent = transparent; suffix = outgoing_is_the_end }
