use Rattle.dcc_lost.specs.JoinedLost.{packets_closed}
use Rattle.dcc_lost.specs.Joining.{Joins}
use Rattle.dcc_capture.proofs.LinesLemmas.{Listing}
use Rattle.dcc_listen.specs.SpikedListing.{IsSpikedLine}
use Rattle.dcc_listen.proofs.spiked_call.list.Given as goal

abbrev pub invariant-runs : goal.invariant-runs
invariant-runs g l =
    Listing (IsSpikedLine l.initial.words) (packets_closed l.initial.limit) (Joins l.initial.limit l.finder)
    l.initial.input l.input l.held (g.W.Sink.state l.initial.writer) (g.W.Sink.state l.writer)

abbrev pub decreases-runs : goal.decreases-runs
decreases-runs g l = l.input.bytes
