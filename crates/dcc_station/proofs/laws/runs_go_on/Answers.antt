use Rattle.dcc_station.proofs.StationRuns.{all_returned, one_command, one_forgetting, one_packet}
use Rattle.dcc_station.proofs.laws.runs_go_on.Goals as goal

pub returns : goal.returns
returns c =
    record { returned = all_returned; handed_out = one_packet; accepted = one_command; forgotten = one_forgetting }
