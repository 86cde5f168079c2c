use Rattle.dcc_regs.proofs.LawLemmas.{values_are_decided}
use Rattle.dcc_regs.proofs.laws.values_are_decided.Goals as goal

pub returns : goal.returns
returns c = values_are_decided
