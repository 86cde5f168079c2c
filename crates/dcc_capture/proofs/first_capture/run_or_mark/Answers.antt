use Rattle.std.proofs.Common.{sym, ◌∙◌}
use Rattle.dcc_capture.proofs.BothLemmas.{marks, counts}
use Rattle.dcc_capture.proofs.first_capture.run_or_mark.Goals as goal

pub returns-then-begins_with_mark : goal.returns-then-begins_with_mark
returns-then-begins_with_mark g c =
    let ends = rw c.in-Some.is at (c.in_ok-line.ensures.reads c.requires) in
    marks c.args.before c.in-Some.line ends.word c.args.input.now c.next_word.new.input c.requires ends.passed
    c.end_mark.new.input c.end_mark.result
    (sym (c.begins_with_mark.ensures ends.word ends.spelled) ∙ c.if-begins_with_mark.true) ends.behind
    c.end_mark.ensures

pub returns-else-begins_with_mark : goal.returns-else-begins_with_mark
returns-else-begins_with_mark g c =
    let ends = rw c.in-Some.is at (c.in_ok-line.ensures.reads c.requires) in
    counts c.args.before c.in-Some.line ends.word c.args.input.now c.next_word.new.input c.requires ends.passed
    c.count_word.new.input c.count_word.result
    (sym (c.begins_with_mark.ensures ends.word ends.spelled) ∙ c.if-begins_with_mark.false) ends.fewer ends.lines
    (c.count_word.ensures ends.word ends.spelled)
