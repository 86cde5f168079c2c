use Rattle.std.proofs.Common.{sym, ◌∙◌, subst}
use Rattle.dcc_wire.specs.Inner.KeptSteps.{HasRoomFor}
use Rattle.dcc_wire.proofs.KeptLemmas.{bad_shows, no_room_shows}
use Rattle.dcc_wire.proofs.kept.KeptFramer.pass_known.Goals as goal

pub returns-in_default-clause-shows : goal.returns-in_default-clause-shows
returns-in_default-clause-shows c = λ _.
    rw (← c.self.view_is)
    (bad_shows c.self.invariant c.if-not-self.false c.args.half (sym c.bit.ensures ∙ c.in_default.is))

pub returns-then-not-has_room_for-clause-shows : goal.returns-then-not-has_room_for-clause-shows
returns-then-not-has_room_for-clause-shows c = λ _.
    let no : ¬ (HasRoomFor c.args.self.now c.in-Some.bit) = λ room. let yes = c.has_room_for.ensures.1 room in cc in
    rw (← c.self.view_is)
    (no_room_shows c.self.invariant c.if-not-self.false c.args.half c.in-Some.bit (sym c.bit.ensures ∙ c.in-Some.is)
    (subst (λ k. ¬ (HasRoomFor k c.in-Some.bit)) (sym c.self.view_is) no))
