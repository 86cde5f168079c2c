use Rattle.dcc_regs.proofs.InParts.{heard_one_more}
use Rattle.dcc_regs.proofs.laws.one_more_packet_heard.Goals as goal

pub returns : goal.returns
returns c = heard_one_more
