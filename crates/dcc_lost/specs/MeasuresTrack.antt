-- The list of half-bits of a `TrackFigures`.
use Rattle.std.specs.Prelude.{ℕ, List}
use Rattle.dcc_lost.specs.declared.figures.TrackFigures.{TrackFigures}
use Rattle.dcc_timing.specs.Recent.{recent_numbers}
use Rattle.dcc_lost.specs.Figures.{AreTrackFigures}

-- `figures` are all statistics of the list `durations`
abbrev pub MeasuresTrack : TrackFigures → List ℕ → Type 0
MeasuresTrack figures durations =
    AreTrackFigures figures.timings figures.ended figures.ones figures.unused (recent_numbers figures.preambles)
    durations
