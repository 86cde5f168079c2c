use Rattle.dcc_order.specs.InStep.{IsInStep, requests_bound}
use Rattle.dcc_order.proofs.comparing.compare.Given as goal

abbrev pub invariant-items : goal.invariant-items
invariant-items l = IsInStep l.fn.who l.fn.left l.fn.right l.comparer

abbrev pub decreases-items : goal.decreases-items
decreases-items l = requests_bound l.fn.left l.fn.right l.comparer
