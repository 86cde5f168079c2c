use Rattle.dcc_station.proofs.Standing.{one_command, one_forgetting, one_packet, one_stop}
use Rattle.dcc_station.proofs.laws.standing_goes_on.Goals as goal

pub returns : goal.returns
returns c =
    record { handed_out = one_packet; accepted = one_command; forgotten = one_forgetting; stopped = one_stop }
