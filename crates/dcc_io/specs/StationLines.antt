-- The lines that `encode` reads for a station, and their requests.
use Rattle.std.specs.Prelude.{◌≡◌, ℕ, ◌&&◌, nat_le, Bool, true, List, [], ◌∷◌, replicate, codes, Result, Ok, Err}
use Rattle.std.specs.Prelude.{if◌then◌else◌}
use Rattle.std.specs.Fmt.{decimal}
use Rattle.dcc_packet.specs.declared.fault.PacketFault.{PacketFault}
use Rattle.dcc_packet.specs.declared.fault.PacketFault.TheVariants as faults
use Rattle.dcc_packet.specs.Spelling.{spelling}
use Rattle.dcc_packet.specs.Words.{Word, is_word}
use Rattle.dcc_packet.specs.LineWords.{◌>>=◌, number}
use Rattle.dcc_packet.specs.Fields.{FieldOf, word_and_rest, whole}
use Rattle.dcc_packet.specs.Line.{frame_of_words}
use Rattle.dcc_io.specs.declared.station_line.SendCount.{SendCount}
use Rattle.dcc_io.specs.declared.station_line.StationLine.{StationLine}
use Rattle.dcc_io.specs.declared.station_line.StationLine.TheVariants as lines
use Rattle.dcc_io.specs.Items.{Grammar}
use Rattle.dcc_io.specs.PacketLines.{Saying, lines_by}

-- a request to a station. The request is a command with a frame, or asks for the next packet of the
-- station.
pub data Asked : Type 0 where
  Command : List ℕ → Asked
  Next : Asked

-- true if `n` is from 1 to 1000
abbrev pub is_send_count : ℕ → Bool
is_send_count n = nat_le 1 n && nat_le n 1000

abbrev pub send_count : Word → Result SendCount PacketFault
send_count word = do
  n ← number word
  if is_send_count n then Ok (record { count = n }) else Err faults.Number

-- the field N of the line `send N`
abbrev pub send_field : FieldOf SendCount
send_field =
    record {
      Fits = λ send. is_send_count send.count ≡ true;
      read = λ words. word_and_rest send_count words;
      written = λ send. decimal send.count ∷ [];
    }

-- a list with one request: the command with the frame of a packet line. If the line has an error,
-- the result is this error.
abbrev pub command_of : Result (List ℕ) PacketFault → Result (List Asked) PacketFault
command_of (Ok frame) = Ok (Command frame ∷ [])
command_of (Err fault) = Err fault

-- the N requests for a packet that the line `send N` means. If the line has an error, the result is
-- this error.
abbrev pub packets_of : Result SendCount PacketFault → Result (List Asked) PacketFault
packets_of (Ok send) = Ok (replicate send.count Next)
packets_of (Err fault) = Err fault

-- the requests of a line with the given words, which is `send N` or a packet line. If the line has
-- an error, the result is this error.
unfoldable pub station_requests : List Word → Result (List Asked) PacketFault
station_requests [] = command_of (frame_of_words [])
station_requests (word ∷ rest) =
    if is_word word (codes "send") then packets_of (whole send_field rest)
    else command_of (frame_of_words (word ∷ rest))

abbrev pub station_words : Saying Asked (List Asked)
station_words = record { said = station_requests; items = λ items. items }

abbrev pub station_lines : Grammar Asked
station_lines = lines_by station_words

-- the requests to a station that a parsed line means
abbrev pub asked_by : StationLine → List Asked
asked_by (lines.Command packet) = Command (spelling packet) ∷ []
asked_by (lines.Send n) = replicate n Next
