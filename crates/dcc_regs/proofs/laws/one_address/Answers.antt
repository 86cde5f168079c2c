use Rattle.dcc_regs.proofs.LawLemmas.{one_address}
use Rattle.dcc_regs.proofs.laws.one_address.Goals as goal

pub returns : goal.returns
returns c = one_address
