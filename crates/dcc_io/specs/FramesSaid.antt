-- Theorems: packet lines mean frames.
use Rattle.std.specs.Prelude.{ℕ, List}
use Rattle.std.specs.List.{AllByRecursion}
use Rattle.dcc_wire.specs.Frames.{IsFrame}
use Rattle.dcc_io.specs.InputState.{InputState}
use Rattle.dcc_io.specs.Items.{in_text}
use Rattle.dcc_io.specs.PacketLines.{packet_lines}
use Rattle.dcc_io.specs.StationLines.{Asked, Command, Next, station_lines}

-- for each `text` of an input, each packet line before the first error means a frame
abbrev pub PacketLinesSayFrames : Type 0
PacketLinesSayFrames = (input : InputState) (text : List ℕ) → AllByRecursion IsFrame
    (in_text packet_lines input text).said

-- if a request is a command, its bytes are a frame
abbrev pub AsksForFrame : Asked → Type 0
AsksForFrame (Command frame) = IsFrame frame
AsksForFrame Next = Unit {0}

-- for each `text` of an input, each command to a station before the first error means a frame
abbrev pub StationLinesSayFrames : Type 0
StationLinesSayFrames =
    (input : InputState) (text : List ℕ) → AllByRecursion AsksForFrame (in_text station_lines input text).said
