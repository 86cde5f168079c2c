use Rattle.dcc_regs.proofs.CvChanges.{cvs_change_by_writes, cvs_change_by_two_copies, cvs_stay_without_writes}
use Rattle.dcc_regs.proofs.laws.cvs_change_by_writes.Goals as goal

pub returns : goal.returns
returns c = record {
  writes = cvs_change_by_writes;
  copies = cvs_change_by_two_copies;
  stay = cvs_stay_without_writes;
}
