use Rattle.std.proofs.Common.{sym, ◌∙◌}
use Rattle.dcc_lost.proofs.FinderLemmas.{longest_is}
use Rattle.dcc_lost.proofs.EndLemmas.{packet_none_at_end, packet_some_at_end}
use Rattle.dcc_lost.proofs.finder.LostFinder.packet_at_end.Goals as goal

pub returns-in-None : goal.returns-in-None
returns-in-None c = λ durations read.
    packet_none_at_end _ _ (sym (longest_is durations _ _ read.recent c.longest_frame_at_end.ensures) ∙ c.in-None.is)

pub returns-in-Some : goal.returns-in-Some
returns-in-Some c = λ durations read.
    packet_some_at_end _ _ _ _
    (sym (longest_is durations _ _ read.recent c.longest_frame_at_end.ensures) ∙ c.in-Some.is)
    (c.with_causes.ensures durations read)
