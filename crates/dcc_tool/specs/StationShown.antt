-- A theorem: `show` lists the packets that `encode` with a station wrote.
use Rattle.std.specs.Prelude.{◌≡◌, ℕ, Bool, false, List, [], ◌∷◌, Some, Ok}
use Rattle.dcc_packet.specs.declared.packet.Packet.{Packet}
use Rattle.dcc_packet.specs.Spelling.{spelling}
use Rattle.dcc_station.specs.Sending as sending
use Rattle.dcc_io.specs.InputState.{InputState, closed_text}
use Rattle.dcc_io.specs.Items.{in_text}
use Rattle.dcc_io.specs.StationLines.{Asked, Command, Next, station_lines}
use Rattle.dcc_io.specs.WriterState.{WriterState}
use Rattle.dcc_capture.specs.Shown.{Shows}
use Rattle.dcc_send.specs.declared.encoding.Encode.{Encode}
use Rattle.dcc_send.specs.StationEncoded.{StationText, after_command, refusal}
use Rattle.dcc_tool.specs.EncodedShown.{ListsSent, TakesText, to_send}

-- a station in state `s` gets a list of requests and goes to state `new`. `frames` are the frames
-- of the packets that the station returns for these requests, in order.
abbrev pub HandsOutFrames : sending.Sending → List Asked → List (List ℕ) → sending.Sending → Type 0
HandsOutFrames s [] frames new = (frames ≡ []) × (new ≡ s)
HandsOutFrames s (Command frame ∷ items) frames new =
    (packet : Packet) × (spelling packet ≡ frame)
    × HandsOutFrames (after_command s packet (refusal s packet)) items frames new
HandsOutFrames s (Next ∷ items) frames new =
    (packet : Packet) × (between : sending.Sending) × (later : List (List ℕ)) × sending.Next s packet between
    × (frames ≡ spelling packet ∷ later) × HandsOutFrames between items later new

-- If `encode` wrote the answers of a new station into memory, and `show` reads them without an
-- error, `show` lists exactly the packets that the station returned. The comments about refused
-- commands contain no half-bits.
abbrev pub StationPacketsAreShown : Type 0
StationPacketsAreShown = (how : Encode) (queue slots repeats : ℕ) (lines lines' : InputState) (from to : WriterState)
    (text answers : List ℕ)
    → StationText how (sending.idle_sending queue slots repeats) lines from (Ok tt) lines' to → lines.text ≡ Some text
    → from.contents ≡ Some [] → to.contents ≡ Some answers
    → (frames : List (List ℕ)) × (end : sending.Sending)
    × HandsOutFrames (sending.idle_sending queue slots repeats) (in_text station_lines lines text).said frames end
    × ((words : Bool) (capture capture' : InputState) (before after : WriterState)
    → TakesText how frames answers capture → capture.text ≡ closed_text false (Some answers)
    → Shows words capture before (Ok tt) capture' after → ListsSent words before after (to_send how frames))
