use Rattle.dcc_station.proofs.Transparent.{refresh_all}
use Rattle.dcc_station.proofs.laws.refresh_is_transparent_where_nothing_waits.Goals as goal

pub returns : goal.returns
returns c = refresh_all
