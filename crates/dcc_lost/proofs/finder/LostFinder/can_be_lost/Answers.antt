use Rattle.std.proofs.Common.{arith, ◌≢◌, ◌++◌, ◌∷◌, [], ◌∙◌, sym}
use Rattle.dcc_wire.specs.declared.seen.Seen.TheVariants.{Nothing}
use Rattle.dcc_lost.proofs.FinderLemmas.{unheard_frame}
use Rattle.dcc_lost.proofs.LawLemmas.{frame_other}
use Rattle.dcc_lost.proofs.LostLemmas.{heard, found}
use Rattle.dcc_lost.proofs.finder.LostFinder.can_be_lost.Goals as goal

pub returns-then-not-is_nothing-clause-none : goal.returns-then-not-is_nothing-clause-none
returns-then-not-is_nothing-clause-none c = λ durations read sees no.
    let something : c.args.outcome.now ≢ Nothing = grind arith in
    sym (heard durations c.args.us c.args.outcome.now sees something)

pub returns-then-not-is_nearest_one-clause-none : goal.returns-then-not-is_nearest_one-clause-none
returns-then-not-is_nearest_one-clause-none c = λ durations read sees no.
    sym (frame_other durations c.args.us (grind arith))

pub returns-clause-none : goal.returns-clause-none
returns-clause-none c = λ durations read sees no.
    sym (found durations c.args.us c.args.outcome.now _ sees (c.is_nothing.ensures.0 (grind arith)) read.heard.stands)
    ∙ c.can_end_packet.ensures.no (durations ++ c.args.us ∷ []) read no

pub returns-clause-some : goal.returns-clause-some
returns-clause-some c = λ durations read sees yes.
    sym (found durations c.args.us c.args.outcome.now _ sees (c.is_nothing.ensures.0 (grind arith)) read.heard.stands)
    ∙ unheard_frame _ _ (c.can_end_packet.ensures.yes yes)
