use Rattle.std.proofs.Common.{sym, ◌∙◌}
use Rattle.std.proofs.lemmas.Result.{err_from_is_err_and}
use Rattle.dcc_send.proofs.StationLemmas.{Answering-start, Answering-wrote, Answering-line, stops_at_write}
use Rattle.dcc_send.proofs.StationLemmas.{stops_before_read, answers_up_to}
use Rattle.dcc_send.proofs.station_encoding.encode_by_station.Goals as goal

pub lines-init : goal.lines-init
lines-init g c =
    (rw c.new-held.ensures (Answering-start (sym c.fault.ensures.fault ∙ c.in_default.is)), c.new-written.ensures)

pub lines-preserved : goal.lines-preserved
lines-preserved g c =
    let took = rw (rw c.in_ok-line.is at c.branch-line.ensures, c.in-Some-2.is) at c.in_ok-next_line.ensures in
    let kept = c.in_ok-answer-in-Some-2.ensures in
    let held = rw c.lines.invariant.1 at kept.answers in (
      Answering-line (Answering-wrote c.lines.invariant.0 took.1 took.2) c.in-Some-2.line took.0 held.0 held.1,
      kept.how ∙ c.lines.invariant.1,
    )

pub returns-in_err-answer-in-Some-2-clause-answers : goal.returns-in_err-answer-in-Some-2-clause-answers
returns-in_err-answer-in-Some-2-clause-answers g c fault =
    let p = err_from_is_err_and c.from_residual-in_err-answer-in-Some-2.result
    c.from_residual-in_err-answer-in-Some-2.ensures.1 in
    let took = rw (rw c.in_ok-line.is at c.branch-line.ensures, c.in-Some-2.is) at c.in_ok-next_line.ensures in
    let failed = rw c.lines.invariant.1 at c.in_err-answer-in-Some-2.ensures.answers in
    rw (p.1, p.2) (stops_at_write (Answering-wrote c.lines.invariant.0 took.1 took.2) _ c.in-Some-2.line took.0 failed.0
    failed.1)

pub returns-in_err-next_line-clause-answers : goal.returns-in_err-next_line-clause-answers
returns-in_err-next_line-clause-answers g c fault =
    let p = err_from_is_err_and c.from_residual.result c.from_residual.ensures.1 in
    let failed = c.in_err-next_line.ensures in
    rw (p.1, p.2, failed.0) (stops_before_read c.lines.invariant.0 failed.1 failed.2)

pub returns-in_err-line-clause-answers : goal.returns-in_err-line-clause-answers
returns-in_err-line-clause-answers g c fault =
    let p = err_from_is_err_and c.from_residual-in_err-line.result c.from_residual-in_err-line.ensures.1 in
    let took = rw (rw c.in_err-line.is at c.branch-line.ensures) at c.in_ok-next_line.ensures in
    rw (p.1, p.2)
    (answers_up_to c.args.how c.args.station.now c.lines.station c.args.input.now c.lines.input c.next_line.new.input
    c.lines.held c.next_line.new.held _ _ _ _ c.lines.invariant.0 took.0 took.1)
