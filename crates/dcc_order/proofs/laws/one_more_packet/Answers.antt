use Rattle.dcc_order.proofs.OneMorePacket.{one_more_packet}
use Rattle.dcc_order.proofs.laws.one_more_packet.Goals as goal

pub returns : goal.returns
returns c = one_more_packet
