use Rattle.dcc_order.proofs.AlikeCuts.{alike_lists}
use Rattle.dcc_order.proofs.laws.alike_lists_leave_the_same.Goals as goal

pub returns : goal.returns
returns c = alike_lists
