-- The nominal timings (NMRA S-9.1, S-9.2, S-9.2.3).
use Rattle.std.specs.Prelude.{refl}
use Rattle.dcc_wire.specs.declared.timing.Timing.{Timing}

-- the nominal timing on the main track, with 14 ones in the preamble
abbrev pub main_timing : Timing
main_timing = record { one = 58; zero_first = 100; zero_second = 100; preamble = 14; sendable = refl }

-- the nominal timing in service mode, with 20 ones in the preamble
abbrev pub service_timing : Timing
service_timing = record { one = 58; zero_first = 100; zero_second = 100; preamble = 20; sendable = refl }
