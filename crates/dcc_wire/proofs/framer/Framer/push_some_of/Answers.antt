use Rattle.std.proofs.Common.{arith}
use Rattle.dcc_wire.proofs.ListLemmas.{takes_all, takes_more}
use Rattle.dcc_wire.proofs.framer.Framer.push_some_of.Goals as goal

pub returns-then-at-halves : goal.returns-then-at-halves
returns-then-at-halves c =
    rw (← c.self.view_is)
    (takes_all c.args.halves.now c.pass_some-at.result c.if-at-halves.true c.requires c.pass_some-at.ensures.passes)

pub returns : goal.returns
returns c =
    let pushed = c.push-seen.ensures in
    let count = c.pass_some-at.ensures.count in
    rw (← c.self.view_is)
    (takes_more c.args.halves.now c.pass_some-at.result c.push-seen.result
    (omega (arith, c.if-at-halves.false, count)) c.pass_some-at.ensures.passes pushed.stands pushed.sees pushed.hunts)
