use Rattle.dcc_regs.proofs.LawLemmas.{idle_is_unheard}
use Rattle.dcc_regs.proofs.laws.idle_is_unheard.Goals as goal

pub returns : goal.returns
returns c = idle_is_unheard
