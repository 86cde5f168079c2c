use Rattle.dcc_regs.proofs.InParts.{heard_nothing}
use Rattle.dcc_regs.proofs.laws.no_packet_heard.Goals as goal

pub returns : goal.returns
returns c = heard_nothing
