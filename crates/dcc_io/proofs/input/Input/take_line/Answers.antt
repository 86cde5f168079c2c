use Rattle.dcc_io.proofs.FrontLemmas.{takes_line_at}
use Rattle.dcc_io.proofs.input.Input.take_line.Goals as goal

pub returns-clause-taken : goal.returns-clause-taken
returns-clause-taken g c taken = λ line front count.
    rw (← c.self.view_is)
    (takes_line_at c.self.inside.source c.skip.new.self c.self.inside.bytes_left c.args.len line c.self.invariant.2
    c.if-self-len.false (rw (← c.self.view_is) at front) count c.skip.ensures.text c.skip.ensures.failures
    (rw (← c.self.view_is) at c.requires.fault))
