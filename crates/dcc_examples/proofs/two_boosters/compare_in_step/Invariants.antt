use Rattle.dcc_order.specs.InStep.{IsInStep, requests_bound}
use Rattle.dcc_examples.proofs.two_boosters.compare_in_step.Given as goal

abbrev pub invariant-packets : goal.invariant-packets
invariant-packets l = IsInStep l.fn.who l.fn.left l.fn.right l.comparer

abbrev pub decreases-packets : goal.decreases-packets
decreases-packets l = requests_bound l.fn.left l.fn.right l.comparer
