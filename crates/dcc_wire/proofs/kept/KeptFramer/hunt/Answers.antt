use Rattle.dcc_wire.proofs.KeptLemmas.{body_begins, one_counted}
use Rattle.dcc_wire.proofs.kept.KeptFramer.hunt.Goals as goal

pub returns-then-begins_body : goal.returns-then-begins_body
returns-then-begins_body c =
    rw (← c.self.view_is)
    (body_begins c.self.invariant (rw (← c.self.view_is) at c.requires) c.args.half c.none-self-inside.result
    c.none-self-inside.ensures (c.begins_body.ensures.yes c.if-begins_body.true))

pub invariant_of-self : goal.invariant_of-self
invariant_of-self c = (returns-then-begins_body c).is

pub returns-else-begins_body : goal.returns-else-begins_body
returns-else-begins_body c =
    rw (← c.self.view_is)
    (one_counted c.self.invariant (rw (← c.self.view_is) at c.requires) c.args.half c.counted-self-inside.result
    c.counted-self-inside.ensures)

pub invariant_of-self-else-begins_body : goal.invariant_of-self-else-begins_body
invariant_of-self-else-begins_body c = (returns-else-begins_body c).is
