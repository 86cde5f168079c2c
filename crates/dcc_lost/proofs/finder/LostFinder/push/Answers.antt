use Rattle.std.proofs.Common.{arith, ◌∙◌, sym}
use Rattle.dcc_lost.proofs.RunLemmas.{packets_lost-push}
use Rattle.dcc_lost.proofs.finder.LostFinder.push.Goals as goal

pub returns-then-not-take-clause-reads : goal.returns-then-not-take-clause-reads
returns-then-not-take-clause-reads c = c.take.ensures.reads

pub returns-then-not-take-clause-lost : goal.returns-then-not-take-clause-lost
returns-then-not-take-clause-lost c = λ durations read. sym (c.take.ensures.none durations read (grind arith))

pub returns-then-not-take-clause-grows : goal.returns-then-not-take-clause-grows
returns-then-not-take-clause-grows c = λ durations read.
    packets_lost-push durations c.args.us _ (returns-then-not-take-clause-lost c durations read)

pub returns-clause-reads : goal.returns-clause-reads
returns-clause-reads c = c.take.ensures.reads

pub returns-clause-lost : goal.returns-clause-lost
returns-clause-lost c = λ durations read.
    c.packet_at_end.ensures _ (c.take.ensures.reads durations read)
    ∙ sym (c.take.ensures.some durations read (grind arith))

pub returns-clause-grows : goal.returns-clause-grows
returns-clause-grows c = λ durations read.
    packets_lost-push durations c.args.us _ (returns-clause-lost c durations read)
