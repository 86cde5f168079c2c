use Rattle.std.proofs.Common.{◌+◌, ◌<◌, ◌≤◌, ◌-◌, ◌++◌, ℕ, List, length, take}
use Rattle.dcc_lost.specs.MeasuresTrack.{MeasuresTrack}
use Rattle.dcc_c.proofs.meter.dcc_meter_push_many.Given as goal

abbrev pub invariant-halves : goal.invariant-halves
invariant-halves l = record {
  within : l.at ≤ length l.halves;
  measures : (track : List ℕ) → MeasuresTrack l.initial.meter track
      → MeasuresTrack l.meter (track ++ take l.at l.halves);
  room : (track : List ℕ) → MeasuresTrack l.initial.meter track → length track + length l.halves < 4294967296;
}

abbrev pub decreases-halves : goal.decreases-halves
decreases-halves l = length l.halves - l.at
