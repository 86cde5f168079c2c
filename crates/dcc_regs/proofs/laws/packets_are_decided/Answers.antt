use Rattle.dcc_regs.proofs.LawLemmas.{packets_are_decided}
use Rattle.dcc_regs.proofs.laws.packets_are_decided.Goals as goal

pub returns : goal.returns
returns c = packets_are_decided
