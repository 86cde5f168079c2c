use Rattle.std.proofs.Common.{◌++◌, ◌∷◌, [], ap}
use Rattle.std.specs.Option.{option_map}
use Rattle.dcc_lost.specs.Causes.{packet_lost, with_causes}
use Rattle.dcc_lost.proofs.finder.LostFinder.take.Goals as goal

pub returns-clause-none : goal.returns-clause-none
unfolding packet_lost
returns-clause-none c = λ durations read no.
    ap (option_map (with_causes (durations ++ c.args.us ∷ [])))
    (c.can_be_lost.ensures.none durations (c.hear-seen.ensures.reads durations read)
    (c.hear-seen.ensures.sees durations read) no)

pub returns-clause-some : goal.returns-clause-some
unfolding packet_lost
returns-clause-some c = λ durations read yes.
    ap (option_map (with_causes (durations ++ c.args.us ∷ [])))
    (c.can_be_lost.ensures.some durations (c.hear-seen.ensures.reads durations read)
    (c.hear-seen.ensures.sees durations read) yes)
