use Rattle.std.proofs.Common.{◌≡◌, ◌≤◌, ◌-◌, ◌++◌, List, ℕ, length, replicate, Ok}
use Rattle.dcc_lost.specs.JoinedLost.{packets_closed}
use Rattle.dcc_lost.specs.Joining.{Joins}
use Rattle.dcc_capture.specs.HeldRuns.{HoldsListing}
use Rattle.dcc_listen.specs.SpikedListing.{IsSpikedLine}
use Rattle.dcc_listen.proofs.spiked_call.list_run.Given as goal

abbrev pub invariant-halves : goal.invariant-halves
invariant-halves g l = record {
  within : l.taken ≤ l.run.n;
  joins : (limit : ℕ) (durations : List ℕ) → Joins limit l.initial.finder durations
      → Joins limit l.finder (durations ++ replicate l.taken l.run.us);
  holds : (limit : ℕ) (durations : List ℕ) → Joins limit l.initial.finder durations → l.before ≡ length durations
      → HoldsListing (IsSpikedLine l.words) (packets_closed limit) durations (replicate l.taken l.run.us)
      (g.W.Sink.state l.initial.writer) l.initial.held (Ok tt) l.held (g.W.Sink.state l.writer);
}

abbrev pub decreases-halves : goal.decreases-halves
decreases-halves g l = l.run.n - l.taken
