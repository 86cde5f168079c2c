use Rattle.dcc_station.proofs.StopsObeyed.{broadcasts}
use Rattle.dcc_station.proofs.laws.broadcasts_are_no_entries.Goals as goal

pub returns : goal.returns
returns c = broadcasts
