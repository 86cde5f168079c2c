use Rattle.dcc_regs.proofs.CvChanges.{read_only_cvs_stay}
use Rattle.dcc_regs.proofs.laws.read_only_cvs_stay.Goals as goal

pub returns : goal.returns
returns c = read_only_cvs_stay
