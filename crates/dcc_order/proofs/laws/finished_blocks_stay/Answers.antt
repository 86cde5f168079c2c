use Rattle.dcc_order.proofs.OneMorePacket.{finished_blocks_stay}
use Rattle.dcc_order.proofs.laws.finished_blocks_stay.Goals as goal

pub returns : goal.returns
returns c = finished_blocks_stay
