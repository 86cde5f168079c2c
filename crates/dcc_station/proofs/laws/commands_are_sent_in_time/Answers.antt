use Rattle.dcc_station.proofs.WaitingLemmas.{few_packets, in_microseconds, in_time}
use Rattle.dcc_station.proofs.laws.commands_are_sent_in_time.Goals as goal

pub returns : goal.returns
returns c = record { packets = few_packets; half_bits = in_time; microseconds = in_microseconds }
