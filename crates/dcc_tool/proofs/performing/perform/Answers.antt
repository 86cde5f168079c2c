use Rattle.std.proofs.lemmas.Result.{err_from_is_err_and}
use Rattle.dcc_tool.proofs.PerformLemmas.{encodes_lines}
use Rattle.dcc_tool.proofs.performing.perform.Goals as goal

pub returns-in_err-encode-in-Encode : goal.returns-in_err-encode-in-Encode
returns-in_err-encode-in-Encode g c =
    let says = c.in_err-encode-in-Encode.ensures in
    let p = err_from_is_err_and c.from_residual-in_err-encode-in-Encode.result
    c.from_residual-in_err-encode-in-Encode.ensures.1 in
    rw (c.in-Encode.is, p.1, p.2)
    (encodes_lines (g.W.Sink.state) c.in-Encode.how c.args.input.now c.encode.new.input
    c.args.writer.now c.encode.new.writer _ says.past_limits says.begins says.nothing_done says.kept says.cause
    says.encodes says.answers)
