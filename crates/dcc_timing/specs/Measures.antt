-- The statistics of a list of half-bits.
use Rattle.std.specs.Prelude.{ℕ, List}
use Rattle.dcc_wire.specs.Kept.{kept_rest}
use Rattle.dcc_timing.specs.declared.timings.Timings.{Timings}
use Rattle.dcc_timing.specs.Measured.{AreMeasured}
use Rattle.dcc_timing.specs.Recent.{recent_numbers}

-- `timings` are the statistics of the list `halves`
abbrev pub Measures : Timings → List ℕ → Type 0
Measures timings halves =
    AreMeasured timings.halves timings.time timings.classes timings.outcomes timings.packets (kept_rest timings.framer)
    (recent_numbers timings.recent)
    halves
