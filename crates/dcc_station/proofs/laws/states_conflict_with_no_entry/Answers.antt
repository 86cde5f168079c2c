use Rattle.dcc_station.proofs.StatePackets.{no_conflict}
use Rattle.dcc_station.proofs.laws.states_conflict_with_no_entry.Goals as goal

pub returns : goal.returns
returns c = no_conflict
