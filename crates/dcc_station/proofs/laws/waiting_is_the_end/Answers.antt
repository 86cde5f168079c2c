use Rattle.dcc_station.proofs.Transparent.{waiting_is_the_end}
use Rattle.dcc_station.proofs.laws.waiting_is_the_end.Goals as goal

pub returns : goal.returns
returns c = waiting_is_the_end
