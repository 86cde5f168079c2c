-- The C structure of a timing.
use Rattle.std.specs.Prelude.{ℕ, Option, None, Some}
use Rattle.dcc_wire.specs.declared.timing.Timing.{Timing}
use Rattle.dcc_wire.specs.declared.timing.TimingFault.{TimingFault}
use Rattle.dcc_wire.specs.FaultNumbers.{timing_fault_number}
use Rattle.dcc_wire.specs.Timings.{timing_fault}
use Rattle.dcc_c.specs.declared.timing.DccTiming.{DccTiming}

-- the C structure of the timing `t`
abbrev pub timing_numbers : Timing → DccTiming
timing_numbers t =
    record { one = t.one; zero_first = t.zero_first; zero_second = t.zero_second; preamble = t.preamble }

-- the number of the error of a timing: 6 to 8 for H6 to H8. If the timing has no error, the number
-- is 0.
abbrev pub timing_number : Option TimingFault → ℕ
timing_number None = 0
timing_number (Some fault) = timing_fault_number fault

abbrev pub timing_answer : DccTiming → ℕ
timing_answer t = timing_number (timing_fault t.one t.zero_first t.zero_second t.preamble)
