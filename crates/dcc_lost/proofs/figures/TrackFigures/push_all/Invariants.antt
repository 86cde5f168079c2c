use Rattle.std.proofs.Common.{◌≡◌, ◌≤◌, ◌+◌, ◌-◌, ℕ, List, ◌++◌, length, take}
use Rattle.dcc_lost.specs.MeasuresTrack.{MeasuresTrack}
use Rattle.dcc_lost.proofs.figures.TrackFigures.push_all.Given as goal

abbrev pub invariant-halves : goal.invariant-halves
invariant-halves l = record {
  measures : (durations : List ℕ) → MeasuresTrack l.initial.self durations
      → MeasuresTrack l.self (durations ++ take l.at l.halves);
  count : l.self.timings.halves ≡ l.initial.self.timings.halves + l.at;
  inside : l.at ≤ length l.halves;
}

abbrev pub decreases-halves : goal.decreases-halves
decreases-halves l = length l.halves - l.at
