use Rattle.std.proofs.Common.{◌≡◌, ◌≤◌, ◌-◌, ℕ, ◌++◌, List, length, take, Ok}
use Rattle.dcc_wire.specs.Framing.{StandsFor, seen}
use Rattle.dcc_capture.specs.HeldRuns.{HoldsListing}
use Rattle.dcc_capture.proofs.show_call.hold_halves.Given as goal

abbrev pub invariant-halves : goal.invariant-halves
invariant-halves g l = record {
  stands : (durations : List ℕ) → StandsFor l.initial.framer durations
      → StandsFor l.framer (durations ++ take l.taken l.halves);
  holds : (durations : List ℕ) → StandsFor l.initial.framer durations → l.before ≡ length durations
      → HoldsListing (g.F.LineForm.is_line l.form) seen durations (take l.taken l.halves)
      (g.W.Sink.state l.initial.writer) l.initial.held (Ok tt) l.held (g.W.Sink.state l.writer);
  inside : l.taken ≤ length l.halves;
}

abbrev pub decreases-halves : goal.decreases-halves
decreases-halves g l = length l.halves - l.taken
