use Rattle.dcc_order.proofs.AlikeCuts.{alike_halves_leave_the_same}
use Rattle.dcc_order.proofs.single.hear_two.Goals as goal

pub returns-clause-alike : goal.returns-clause-alike
returns-clause-alike g c = λ same_who same alike.
    alike_halves_leave_the_same _ _ _ _ alike _ (g.R.Decoder.who c.hear_one-2.new.decoder) _ _ c.hear_one.ensures
    (rw (same_who, same) c.hear_one-2.ensures)
