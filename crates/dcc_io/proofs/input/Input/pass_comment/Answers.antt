use Rattle.dcc_io.proofs.FrontLemmas.{passes_comment_at}
use Rattle.std.proofs.Common.{arith}
use Rattle.dcc_io.proofs.input.Input.pass_comment.Goals as goal

pub returns : goal.returns
returns g c =
    let known = rw (← c.self.view_is) at c.requires in
    rw (← c.self.view_is)
    (passes_comment_at c.self.inside.source c.skip.new.self c.self.inside.bytes_left c.self.invariant.2 known
    c.skip.ensures.failures c.len_of_line-len.result c.if-not-self.false c.if-self-len.false (omega arith)
    (rw c.ahead.ensures.bytes at c.len_of_line-len.ensures) c.skip.ensures.text)
