use Rattle.dcc_lost.specs.Causes.{packets_lost}
use Rattle.dcc_lost.specs.Reads.{Follows}
use Rattle.dcc_capture.proofs.LinesLemmas.{Listing}
use Rattle.dcc_listen.specs.LostListing.{IsLostLine}
use Rattle.dcc_listen.proofs.lost_call.list.Given as goal

abbrev pub invariant-runs : goal.invariant-runs
invariant-runs g l =
    Listing (IsLostLine l.initial.words) packets_lost (Follows l.finder) l.initial.input l.input l.held
    (g.W.Sink.state l.initial.writer) (g.W.Sink.state l.writer)

abbrev pub decreases-runs : goal.decreases-runs
decreases-runs g l = l.input.bytes
