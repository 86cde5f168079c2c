use Rattle.dcc_lost.proofs.HeardLemmas.{hears_more}
use Rattle.dcc_lost.proofs.heard.Heard.push.Goals as goal

pub returns-clause-hears : goal.returns-clause-hears
returns-clause-hears c = λ durations hears.
    rw c.count.ensures.framer
    (hears_more durations c.args.us _ _ _ _ _ _ c.push-seen.result hears
    (c.push-seen.ensures.stands durations hears.stands)
    (c.push-seen.ensures.sees durations hears.stands) c.count.ensures.unused c.count.ensures.since)

pub returns-clause-sees : goal.returns-clause-sees
returns-clause-sees c = λ durations hears. c.push-seen.ensures.sees durations hears.stands
