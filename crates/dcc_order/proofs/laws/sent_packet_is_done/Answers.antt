use Rattle.dcc_order.proofs.SentAndHeard.{sent_packet_is_done}
use Rattle.dcc_order.proofs.laws.sent_packet_is_done.Goals as goal

pub returns : goal.returns
returns c = sent_packet_is_done
