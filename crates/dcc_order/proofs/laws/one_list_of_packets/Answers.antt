use Rattle.dcc_order.proofs.HearingLemmas.{one_list_of_packets}
use Rattle.dcc_order.proofs.SomePackets.{some_list_of_packets}
use Rattle.dcc_order.proofs.laws.one_list_of_packets.Goals as goal

pub returns : goal.returns
returns c = record { some = some_list_of_packets; one = one_list_of_packets }
