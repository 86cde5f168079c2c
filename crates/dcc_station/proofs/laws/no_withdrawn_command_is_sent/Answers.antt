use Rattle.dcc_station.proofs.Standing.{no_withdrawn}
use Rattle.dcc_station.proofs.laws.no_withdrawn_command_is_sent.Goals as goal

pub returns : goal.returns
returns c = no_withdrawn
