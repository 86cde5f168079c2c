use Rattle.std.proofs.Common.{◌+◌, cond}
use Rattle.dcc_listen.specs.Inner.InStep.{TakenInStep}
use Rattle.dcc_listen.proofs.in_step.compare_in_step.Given as goal

abbrev pub invariant-packets : goal.invariant-packets
invariant-packets g l = record {
  left_open : g.L.Side.is_open l.left;
  right_open : g.R.Side.is_open l.right;
  in_step : TakenInStep l.fn.who (g.L.Side.took l.initial.left l.left) (g.R.Side.took l.initial.right l.right)
      l.left_progress l.right_progress l.comparer;
}

abbrev pub decreases-packets : goal.decreases-packets
decreases-packets g l =
    g.L.Side.left l.left l.left_progress + g.R.Side.left l.right l.right_progress + cond l.left_progress.ended 0 1
    + cond l.right_progress.ended 0 1
