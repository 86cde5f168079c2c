use Rattle.std.proofs.Common.{sym, ◌∙◌}
use Rattle.dcc_order.proofs.AlikeCuts.{alike_lists}
use Rattle.dcc_order.proofs.AlikeVerdicts.{alike_is}
use Rattle.dcc_order.proofs.comparing.compare.Goals as goal

pub returns-in-Done-clause-alike_is : goal.returns-in-Done-clause-alike_is
returns-in-Done-clause-alike_is c =
    alike_is c.args.who c.args.left.now c.args.right.now c.in-Done.verdict (c.lists_in_step.ensures.verdict c.args.who
    c.args.left.now c.args.right.now c.items.comparer c.in-Done.verdict c.items.invariant
    (sym c.in-Done.is ∙ c.wants.ensures.is))

pub returns-in-Done-clause-alike : goal.returns-in-Done-clause-alike
returns-in-Done-clause-alike c = λ e.
    alike_lists c.args.who c.args.left.now c.args.right.now ((returns-in-Done-clause-alike_is c).0 (cc))
