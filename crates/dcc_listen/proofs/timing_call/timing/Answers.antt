use Rattle.std.proofs.lemmas.Result.{err_from_is_err_and}
use Rattle.dcc_listen.proofs.TimingLemmas.{timed, unwritten}
use Rattle.dcc_listen.proofs.timing_call.timing.Goals as goal

pub returns-clause-times : goal.returns-clause-times
returns-clause-times g c none =
    timed c.args.input.now c.measure.new.input (g.W.Sink.state c.args.writer.now)
    (g.W.Sink.state c.write_all.new.writer) c.in_ok-figures.figures
    c.timing_text.result.items c.as_slice.result.now c.in_ok-figures.ensures c.timing_text.ensures
    c.as_slice.ensures.value c.in_ok-write_all.ensures

pub returns-in_err-write_all-clause-times : goal.returns-in_err-write_all-clause-times
returns-in_err-write_all-clause-times g c none =
    let p = err_from_is_err_and c.from_residual-in_err-write_all.result
    c.from_residual-in_err-write_all.ensures.1 in
    rw (p.1, p.2)
    (unwritten c.args.input.now c.measure.new.input (g.W.Sink.state c.args.writer.now)
    (g.W.Sink.state c.write_all.new.writer) c.in_ok-figures.figures
    c.timing_text.result.items c.as_slice.result.now _ c.in_ok-figures.ensures c.timing_text.ensures
    c.as_slice.ensures.value c.in_err-write_all.ensures)
