use Rattle.dcc_regs.proofs.LawLemmas.{no_conflict_with_itself}
use Rattle.dcc_regs.proofs.laws.no_conflict_with_itself.Goals as goal

pub returns : goal.returns
returns c = no_conflict_with_itself
