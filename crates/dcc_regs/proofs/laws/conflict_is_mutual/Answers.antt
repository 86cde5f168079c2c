use Rattle.dcc_regs.proofs.LawLemmas.{conflict_is_mutual}
use Rattle.dcc_regs.proofs.laws.conflict_is_mutual.Goals as goal

pub returns : goal.returns
returns c = conflict_is_mutual
