use Rattle.dcc_order.proofs.ComparisonLaws.{held_fits}
use Rattle.std.proofs.Common.{◌∙◌, arith}
use Rattle.dcc_order.proofs.comparison.Comparison.held_len.Goals as goal

pub returns : goal.returns
returns c =
    λ lists s going. let fits = held_fits c.args.self.now lists going (omega arith) (omega arith) s in c.len.ensures
    fits.0 ∙ fits.1
