use Rattle.std.proofs.Common.{◌≡◌, ◌+◌, ◌≤◌, ◌-◌, ◌++◌, ℕ, List, replicate}
use Rattle.dcc_lost.specs.MeasuresTrack.{MeasuresTrack}
use Rattle.dcc_lost.proofs.figures.TrackFigures.push_run.Given as goal

abbrev pub invariant-run : goal.invariant-run
invariant-run l = record {
  within : l.at ≤ l.n;
  count : l.self.timings.halves ≡ l.initial.self.timings.halves + l.at;
  measures : (durations : List ℕ) → MeasuresTrack l.initial.self durations
      → MeasuresTrack l.self (durations ++ replicate l.at l.us);
}

abbrev pub decreases-run : goal.decreases-run
decreases-run l = l.n - l.at
