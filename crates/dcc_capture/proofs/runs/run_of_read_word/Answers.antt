use Rattle.std.proofs.Common.{sym}
use Rattle.std.proofs.lemmas.Result.{err_from_is_err_and}
use Rattle.dcc_capture.proofs.CaptureLemmas.{counts_answer, stops_at_word, stops_before_word}
use Rattle.dcc_capture.proofs.runs.run_of_read_word.Goals as goal

pub returns-in-Some-run : goal.returns-in-Some-run
returns-in-Some-run g c =
    let ends = rw c.in-Some.is at (c.in_ok-line.ensures.reads c.requires) in
    counts_answer _ c.in-Some-run.run' c.count_run.result c.requires ends
    (sym (c.in-Some-run.ensures ends.word ends.spelled)) c.count_run.ensures

pub returns-in-None-run : goal.returns-in-None-run
returns-in-None-run g c =
    let ends = rw c.in-Some.is at (c.in_ok-line.ensures.reads c.requires) in
    let refused = c.refuse_number.ensures.refuses ends.passed.fault in
    simp (refused.0, refused.1)
    (stops_at_word ends.passed ends.lines (sym (c.in-None-run.ensures ends.word ends.spelled)))

pub returns-in_err-line : goal.returns-in_err-line
returns-in_err-line g c =
    let p = err_from_is_err_and c.from_residual.result c.from_residual.ensures.1 in
    rw (p.1, p.2)
    (stops_before_word c.args.input.now c.next_word.new.input _ c.requires (c.in_err-line.ensures.reads c.requires))
