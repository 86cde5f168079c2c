-- The result of `encode`.
use Rattle.std.specs.Prelude.{ℕ, ◌∷◌, ◌++◌, List, [], Result, decimal, codes, if◌then◌else◌}
use Rattle.std.specs.List.{flat_map}
use Rattle.std.specs.Io.KnownBytes.{Appends}
use Rattle.hex.specs.Hex.{encode_lower}
use Rattle.dcc_wire.specs.declared.timing.Timing.{Timing}
use Rattle.dcc_wire.specs.Sending.{sent}
use Rattle.dcc_wire.specs.NominalTimings.{main_timing, service_timing}
use Rattle.dcc_send.specs.declared.encoding.Encode.{Encode}
use Rattle.dcc_io.specs.declared.fault.ToolFault.{ToolFault}
use Rattle.dcc_io.specs.Calls.{WritesOfLines}
use Rattle.dcc_io.specs.InputState.{InputState}
use Rattle.dcc_io.specs.WriterState.{WriterState}
use Rattle.dcc_io.specs.WrittenBytes.{AppendsFront}
use Rattle.dcc_io.specs.Spaced.{behind_space}
use Rattle.dcc_io.specs.PacketLines.{packet_lines}

-- the decimal digits of the numbers of a list, with a space between every two numbers
abbrev pub spaced_numbers : List ℕ → List ℕ
spaced_numbers [] = []
spaced_numbers (n ∷ more) = decimal n ++ flat_map behind_space more

-- the timing of the packets in the encoding `how`: the nominal timing in service mode if
-- `how.service` is true, otherwise on the main track
abbrev pub timing_of : Encode → Timing
timing_of how = if how.service then service_timing else main_timing

-- the line of `frame` in the encoding `how`: the hexadecimal digits of its bytes, or its half-bits
abbrev pub frame_line : Encode → List ℕ → List ℕ
frame_line how frame =
    (if how.hex then encode_lower frame else spaced_numbers (sent frame (timing_of how))) ++ codes "\n"

-- the lines of `frames` in the encoding `how`: one line for each frame, in order
abbrev pub encoding : Encode → List (List ℕ) → List ℕ
encoding how frames = flat_map (frame_line how) frames

-- the lines of `frames` in the encoding `how` were written
abbrev pub Encodes : Encode → WriterState → WriterState → List (List ℕ) → Type 0
Encodes how before after frames = Appends before.contents after.contents (encoding how frames)

-- If the result of `encode` is Ok, the encoding of all packet lines was written. After an error of
-- the input, the encoding of the lines before this error was written. After a failed write, a
-- prefix of the encoding was written.
abbrev pub EncodesText : Encode → InputState → WriterState → Result (Unit {0}) ToolFault → InputState → WriterState
    → Type 0
EncodesText how old before result new after =
    WritesOfLines packet_lines (Encodes how before after) (λ frames. AppendsFront before after (encoding how frames))
    old
    before result new after
