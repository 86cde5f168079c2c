use Rattle.std.proofs.Common.{◌≡◌, ◌≤◌, ◌-◌, ◌++◌, List, ℕ, length, take, Ok}
use Rattle.dcc_lost.specs.Causes.{packets_lost}
use Rattle.dcc_lost.specs.Reads.{Follows}
use Rattle.dcc_capture.specs.HeldRuns.{HoldsListing}
use Rattle.dcc_listen.specs.LostListing.{IsLostLine}
use Rattle.dcc_listen.proofs.lost_call.list_halves.Given as goal

abbrev pub invariant-halves : goal.invariant-halves
invariant-halves g l = record {
  within : l.taken ≤ length l.halves;
  follows : (durations : List ℕ) → Follows l.initial.finder durations
      → Follows l.finder (durations ++ take l.taken l.halves);
  holds : (durations : List ℕ) → Follows l.initial.finder durations → l.before ≡ length durations
      → HoldsListing (IsLostLine l.words) packets_lost durations (take l.taken l.halves)
      (g.W.Sink.state l.initial.writer) l.initial.held (Ok tt) l.held (g.W.Sink.state l.writer);
}

abbrev pub decreases-halves : goal.decreases-halves
decreases-halves g l = length l.halves - l.taken
