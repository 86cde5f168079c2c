use Rattle.dcc_regs.proofs.LawLemmas.{mode_stays}
use Rattle.dcc_regs.proofs.laws.mode_stays.Goals as goal

pub returns : goal.returns
returns c = mode_stays
