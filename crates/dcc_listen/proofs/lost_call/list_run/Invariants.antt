use Rattle.std.proofs.Common.{◌≡◌, ◌≤◌, ◌-◌, ◌++◌, List, ℕ, length, replicate, Ok}
use Rattle.dcc_lost.specs.Causes.{packets_lost}
use Rattle.dcc_lost.specs.Reads.{Follows}
use Rattle.dcc_capture.specs.HeldRuns.{HoldsListing}
use Rattle.dcc_listen.specs.LostListing.{IsLostLine}
use Rattle.dcc_listen.proofs.lost_call.list_run.Given as goal

abbrev pub invariant-pieces : goal.invariant-pieces
invariant-pieces g l = record {
  within : l.taken ≤ l.run.n;
  follows : (durations : List ℕ) → Follows l.initial.finder durations
      → Follows l.finder (durations ++ replicate l.taken l.run.us);
  holds : (durations : List ℕ) → Follows l.initial.finder durations → l.before ≡ length durations
      → HoldsListing (IsLostLine l.words) packets_lost durations (replicate l.taken l.run.us)
      (g.W.Sink.state l.initial.writer) l.initial.held (Ok tt) l.held (g.W.Sink.state l.writer);
}

abbrev pub decreases-pieces : goal.decreases-pieces
decreases-pieces g l = l.run.n - l.taken
