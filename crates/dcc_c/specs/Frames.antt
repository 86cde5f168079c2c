-- Frames as fields of a C structure.
use Rattle.std.specs.Prelude.{ℕ, ◌-◌, List, ◌++◌, length, replicate, take, Result, Ok, Err}
use Rattle.dcc_wire.specs.declared.frame.Frame.{Frame}
use Rattle.dcc_wire.specs.declared.frame.FrameFault.{FrameFault}
use Rattle.dcc_wire.specs.FaultNumbers.{frame_fault_number}
use Rattle.dcc_wire.specs.FrameOf.{frame_of}
use Rattle.dcc_c.specs.declared.frame.DccFrame.{DccFrame}

-- `list` followed by zeros, with `n` items in all
abbrev pub zeros_behind : ℕ → List ℕ → List ℕ
zeros_behind n list = list ++ replicate (n - length list) 0

-- the C structure of a frame with the bytes `bytes`. The structure has the number of these bytes,
-- and six bytes: `bytes` and then zeros.
abbrev pub frame_numbers : List ℕ → DccFrame
frame_numbers bytes = record { len = length bytes; bytes = zeros_behind 6 bytes }

-- the bytes of the frame in the C structure `f`
abbrev pub bytes_of : DccFrame → List ℕ
bytes_of f = take f.len f.bytes

-- the number of the error of a result: 1 for L1 and 2 for L2. If the result is a frame, the number
-- is 0.
abbrev pub frame_error_number : Result Frame FrameFault → ℕ
frame_error_number (Ok frame) = 0
frame_error_number (Err fault) = frame_fault_number fault

abbrev pub frame_answer : List ℕ → ℕ
frame_answer bytes = frame_error_number (frame_of bytes)
