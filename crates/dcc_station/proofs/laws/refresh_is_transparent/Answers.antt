use Rattle.dcc_station.proofs.Transparent.{refresh}
use Rattle.dcc_station.proofs.laws.refresh_is_transparent.Goals as goal

pub returns : goal.returns
returns c = refresh
