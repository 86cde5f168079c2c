use Rattle.dcc_regs.proofs.NoteLemmas.{only_call}
use Rattle.dcc_regs.proofs.laws.no_other_call_tells.Goals as goal

pub returns : goal.returns
returns c = only_call
