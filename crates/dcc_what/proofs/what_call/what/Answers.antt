use Rattle.std.proofs.Common.{◌≡◌, ◌∙◌, refl}
use Rattle.std.proofs.lemmas.Result.{err_from_is_err_and}
use Rattle.dcc_what.specs.Sentences.{what_text}
use Rattle.dcc_what.proofs.SaidLemmas.{says, says_in_part}
use Rattle.dcc_what.proofs.what_call.what.Goals as goal

pub returns-in_err-write_all-clause-says : goal.returns-in_err-write_all-clause-says
returns-in_err-write_all-clause-says g c none =
    let p = err_from_is_err_and c.from_residual-in_err-write_all.result c.from_residual-in_err-write_all.ensures.1 in
    let written = c.as_slice-3.ensures.value ∙ c.sentence.ensures in
    let kind = c.in_ok-kind.ensures in
    let is : c.as_slice-3.result.now ≡ what_text c.in_ok-bytes.bytes.items =
    rw (written, kind, c.as_slice.ensures.value, c.as_slice-2.ensures.value) refl in
    rw (p.1, p.2) (says_in_part c.args.input.now c.read_all.new.input (g.W.Sink.state c.args.writer.now)
    (g.W.Sink.state c.write_all.new.writer) c.in_ok-bytes.bytes.items c.as_slice-3.result.now
    (c.in_ok-bytes.ensures.reads none) is c.in_err-write_all.ensures)

pub returns-clause-says : goal.returns-clause-says
returns-clause-says g c none =
    let written = c.as_slice-3.ensures.value ∙ c.sentence.ensures in
    let kind = c.in_ok-kind.ensures in
    let is : c.as_slice-3.result.now ≡ what_text c.in_ok-bytes.bytes.items =
    rw (written, kind, c.as_slice.ensures.value, c.as_slice-2.ensures.value) refl in
    says c.args.input.now c.read_all.new.input (g.W.Sink.state c.args.writer.now)
    (g.W.Sink.state c.write_all.new.writer) c.in_ok-bytes.bytes.items c.as_slice-3.result.now
    (c.in_ok-bytes.ensures.reads none) is c.in_ok-write_all.ensures
