use Rattle.dcc_listen.proofs.GatherFirstLemmas.{GatheringFirst}
use Rattle.dcc_listen.proofs.first_capture.gather_first.Given as goal

abbrev pub invariant-runs : goal.invariant-runs
invariant-runs g l = GatheringFirst l.initial.input l.input l.before l.framer l.packets.items

abbrev pub decreases-runs : goal.decreases-runs
decreases-runs g l = l.input.bytes
