use Rattle.dcc_order.proofs.AlikeCuts.{alike_halves_leave_the_same}
use Rattle.dcc_order.proofs.laws.decoders_that_heard_alike_halves_are_equal.Goals as goal

pub returns : goal.returns
returns g c = λ own start halves others alike h k. alike_halves_leave_the_same own start halves others alike _ _ _ _ h k
