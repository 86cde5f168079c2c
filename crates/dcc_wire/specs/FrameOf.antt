-- The frame that consists of a list of bytes.
use Rattle.std.specs.Prelude.{ℕ, List, length, nat_lt, ◌==◌, ◌||◌, if◌then◌else◌, Result, Ok, Err}
use Rattle.dcc_wire.specs.declared.frame.FrameFault.{FrameFault}
use Rattle.dcc_wire.specs.declared.frame.FrameFault.TheVariants.{Length, XorNotZero}
use Rattle.dcc_wire.specs.declared.frame.Frame.{Frame}
use Rattle.dcc_wire.specs.Frames.{xor_of, with_error_byte}

-- the frame that consists of `bytes`. If `bytes` do not form a frame, the result is their first
-- error.
abbrev pub frame_of : List ℕ → Result Frame FrameFault
frame_of bytes =
    if nat_lt (length bytes) 3 || nat_lt 6 (length bytes) then Err Length
    else if xor_of bytes == 0 then Ok bytes
    else Err XorNotZero

-- the frame that consists of `bytes` and their error byte. If there are fewer than 2 or more than 5
-- bytes, the result is the error L1.
abbrev pub frame_with_error_byte : List ℕ → Result Frame FrameFault
frame_with_error_byte bytes =
    if nat_lt (length bytes) 2 || nat_lt 5 (length bytes) then Err Length
    else Ok (with_error_byte bytes)
