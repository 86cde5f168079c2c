-- A packet that a caller in C sends.
use Rattle.std.specs.Prelude.{◌≡◌, ℕ, ◌==◌, if◌then◌else◌, List}
use Rattle.dcc_wire.specs.declared.halves.Halves.{Halves}
use Rattle.dcc_wire.specs.HalvesLeft.{halves_left}
use Rattle.dcc_c.specs.declared.timing.DccTiming.{DccTiming}
use Rattle.dcc_c.specs.Frames.{frame_answer}
use Rattle.dcc_c.specs.Timings.{timing_answer}

-- the number of the first error of `frame` and `timing`, or 0 if a station can send `frame` with
-- `timing`. The errors of the timing come first: 6 to 8 for H6 to H8. Then come the errors of the
-- frame: 1 for L1 and 2 for L2.
abbrev pub sending_answer : List ℕ → DccTiming → ℕ
sending_answer frame timing = if timing_answer timing == 0 then frame_answer frame else timing_answer timing

-- `halves` are the half-bits that `sender` must still send
abbrev pub HasLeft : Halves → List ℕ → Type 0
HasLeft sender halves = halves_left sender ≡ halves
