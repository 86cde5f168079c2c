use Rattle.std.proofs.Common.{◌≡◌, ◌-◌, ◌∙◌, arith}
use Rattle.dcc_wire.specs.Runs.{rest_after_run, ones_after}
use Rattle.dcc_wire.proofs.framer.Framer.push_run.Goals as goal

pub returns-then-n-eq1-clause-hunts : goal.returns-then-n-eq1-clause-hunts
unfolding rest_after_run ones_after
returns-then-n-eq1-clause-hunts c something =
    let none : c.args.n - 1 ≡ 0 = omega arith in c.push-seen.ensures.hunts something ∙ rw none
