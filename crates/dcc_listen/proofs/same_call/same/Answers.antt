use Rattle.std.proofs.lemmas.Result.{err_from_is_err_and}
use Rattle.dcc_listen.proofs.InStepLemmas.{compared, gathered}
use Rattle.dcc_listen.proofs.same_call.same.Goals as goal

pub returns-clause-compares : goal.returns-clause-compares
returns-clause-compares g c =
    let (packets, others, first, second, is) = c.in_ok-verdict.ensures.compared in (
      (
        compared c.alike_is_the_verdict.ensures c.alike_lists_leave_the_same.ensures c.args.who c.args.left.now
            c.args.right.now c.compare_in_step.new.left c.compare_in_step.new.right c.in_ok-verdict.verdict packets
            others (gathered c.args.left.now c.compare_in_step.new.left packets first)
            (gathered c.args.right.now c.compare_in_step.new.right others second) is,
        c.in_ok-write_verdict.ensures.0,
      ),
      c.in_ok-write_verdict.ensures.1,
    )

pub returns-in_err-write_verdict-clause-compares : goal.returns-in_err-write_verdict-clause-compares
returns-in_err-write_verdict-clause-compares g c =
    let p = err_from_is_err_and c.from_residual-in_err-write_verdict.result
    c.from_residual-in_err-write_verdict.ensures.1 in
    let (packets, others, first, second, is) = c.in_ok-verdict.ensures.compared in
    rw (p.1, p.2) (
      (
        c.in_ok-verdict.verdict,
        compared c.alike_is_the_verdict.ensures c.alike_lists_leave_the_same.ensures c.args.who c.args.left.now
            c.args.right.now c.compare_in_step.new.left c.compare_in_step.new.right c.in_ok-verdict.verdict packets
            others (gathered c.args.left.now c.compare_in_step.new.left packets first)
            (gathered c.args.right.now c.compare_in_step.new.right others second) is,
        c.in_err-write_verdict.ensures.0,
      ),
      c.in_err-write_verdict.ensures.1,
    )
