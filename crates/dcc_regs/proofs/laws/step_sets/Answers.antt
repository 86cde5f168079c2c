use Rattle.dcc_regs.proofs.RegisterStep.{step-sets}
use Rattle.dcc_regs.proofs.laws.step_sets.Goals as goal

pub returns : goal.returns
returns c = step-sets
