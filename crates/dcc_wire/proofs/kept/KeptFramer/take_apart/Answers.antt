use Rattle.std.proofs.Common.{sym, ap, ◌∙◌}
use Rattle.dcc_wire.specs.Framing.{Hunting}
use Rattle.dcc_wire.specs.Outcomes.{ones_left}
use Rattle.dcc_wire.proofs.KeptLemmas.{outcome_leaves, hunts_again}
use Rattle.dcc_wire.proofs.kept.KeptFramer.take_apart.Goals as goal

pub invariant_of-self : goal.invariant_of-self
invariant_of-self c =
    let shows = rw (← c.self.view_is) at c.requires in
    let seen = rw (← c.self.view_is) at c.outcome-seen.ensures in
    hunts_again c.self.invariant c.args.half shows _ (c.ones_left-self-inside.ensures ∙ ap ones_left seen)

pub returns-clause-is : goal.returns-clause-is
returns-clause-is c = invariant_of-self c

pub returns-clause-after : goal.returns-clause-after
returns-clause-after c =
    let shows = c.requires in
    ap Hunting (c.ones_left-self-inside.ensures ∙ ap ones_left c.outcome-seen.ensures)
    ∙ sym (outcome_leaves c.args.self.now c.args.half shows)
