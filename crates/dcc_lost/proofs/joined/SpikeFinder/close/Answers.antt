use Rattle.dcc_lost.proofs.JoinedLemmas.{joined_more}
use Rattle.dcc_lost.proofs.joined.SpikeFinder.close.Goals as goal

pub returns-clause-closed : goal.returns-clause-closed
returns-clause-closed c = λ limit durations joins.
    joined_more limit durations _ _ _ _ joins.joined c.push.ensures.durations c.push.ensures.spikes
    c.push.ensures.unused c.push.ensures.packets

pub returns-clause-found : goal.returns-clause-found
returns-clause-found c = λ limit durations joins.
    c.packet_at_end.ensures limit durations joins.joined.heard
    (joined_more limit durations _ _ _ _ joins.joined c.push.ensures.durations c.push.ensures.spikes
    c.push.ensures.unused c.push.ensures.packets)
