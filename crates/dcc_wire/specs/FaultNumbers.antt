-- The numbers of the error codes.
use Rattle.std.specs.Prelude.{ℕ}
use Rattle.dcc_wire.specs.declared.seen.Fault.{Fault}
use Rattle.dcc_wire.specs.declared.seen.Fault.TheVariants.{BadHalf, SplitBit, TooShort, TooLong, ErrorByte}
use Rattle.dcc_wire.specs.declared.frame.FrameFault.{FrameFault}
use Rattle.dcc_wire.specs.declared.frame.FrameFault.TheVariants.{Length, XorNotZero}
use Rattle.dcc_wire.specs.declared.timing.TimingFault.{TimingFault}
use Rattle.dcc_wire.specs.declared.timing.TimingFault.TheVariants.{One, Zero, Preamble}

-- the number of the error of a refusal, 1 to 5 for the error codes H1 to H5
abbrev pub fault_number : Fault → ℕ
fault_number BadHalf = 1
fault_number SplitBit = 2
fault_number TooShort = 3
fault_number TooLong = 4
fault_number (ErrorByte body) = 5

-- the number of a timing error, 6 to 8 for the error codes H6 to H8
abbrev pub timing_fault_number : TimingFault → ℕ
timing_fault_number One = 6
timing_fault_number Zero = 7
timing_fault_number Preamble = 8

-- the number of a frame error, 1 or 2 for the error codes L1 and L2
abbrev pub frame_fault_number : FrameFault → ℕ
frame_fault_number Length = 1
frame_fault_number XorNotZero = 2
