use Rattle.dcc_order.proofs.AlikeCuts.{alike_halves_leave_the_same}
use Rattle.dcc_order.proofs.laws.alike_halves_leave_the_same.Goals as goal

pub returns : goal.returns
returns c = alike_halves_leave_the_same
