use Rattle.std.proofs.Common.{sym, ◌∙◌}
use Rattle.dcc_lost.proofs.CauseLemmas.{noted-first, noted-more, not_noted}
use Rattle.dcc_lost.proofs.causes.noted.Goals as goal

pub returns-then-not-counts : goal.returns-then-not-counts
returns-then-not-counts c = λ has_kind durations e kind.
    not_noted has_kind durations c.args.us _ (sym kind ∙ c.if-not-counts.true) e

pub returns-in-None : goal.returns-in-None
returns-in-None c = λ has_kind durations e kind.
    noted-first has_kind durations c.args.us (sym kind ∙ c.if-not-counts.false) (sym c.in-None.is ∙ e)

pub returns-in-Some : goal.returns-in-Some
returns-in-Some c = λ has_kind durations e kind.
    rw (c.min.ensures, c.max.ensures)
    (noted-more has_kind durations c.args.us c.in-Some.figures.count c.in-Some.figures.least c.in-Some.figures.most
    (sym kind ∙ c.if-not-counts.false) (sym c.in-Some.is ∙ e))
