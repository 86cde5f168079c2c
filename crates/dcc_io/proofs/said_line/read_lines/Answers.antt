use Rattle.std.proofs.Common.{sym, ◌∙◌}
use Rattle.std.proofs.lemmas.Result.{err_from_is_err_and}
use Rattle.dcc_io.proofs.PacketLineLemmas.{Gave-passed, answers_said, answers_fault}
use Rattle.dcc_io.proofs.said_line.read_lines.Goals as goal

pub lines-preserved-then-take_skipped_line : goal.lines-preserved-then-take_skipped_line
lines-preserved-then-take_skipped_line g c =
    let skips = c.take_skipped_line.ensures.taken c.if-take_skipped_line.true in
    Gave-passed g.L.ParsedLine.saying g.L.ParsedLine.as_said c.lines.invariant skips.ends skips.skipped

pub returns-then-not-is_skipped : goal.returns-then-not-is_skipped
returns-then-not-is_skipped g c =
    let gave = rw (← c.take_skipped_line.ensures.left c.if-take_skipped_line.false) at c.lines.invariant in
    answers_said g.L.ParsedLine.saying g.L.ParsedLine.as_said c.read_item.new.input c.in-Some.line c.read_item.result
    gave
    (rw c.in-Some.is at c.in_ok-line.ensures) (sym c.is_skipped.ensures ∙ c.if-not-is_skipped.true) c.read_item.ensures

pub lines-preserved : goal.lines-preserved
lines-preserved g c =
    let gave = rw (← c.take_skipped_line.ensures.left c.if-take_skipped_line.false) at c.lines.invariant in
    Gave-passed g.L.ParsedLine.saying g.L.ParsedLine.as_said gave (rw c.in-Some.is at c.in_ok-line.ensures)
    (sym c.is_skipped.ensures ∙ c.if-not-is_skipped.false)

pub returns-in_err-line : goal.returns-in_err-line
returns-in_err-line g c =
    let gave = rw (← c.take_skipped_line.ensures.left c.if-take_skipped_line.false) at c.lines.invariant in
    let p = err_from_is_err_and c.from_residual.result c.from_residual.ensures.1 in
    rw (p.1, p.2) (answers_fault g.L.ParsedLine.saying g.L.ParsedLine.as_said _ _ gave c.in_err-line.ensures)
