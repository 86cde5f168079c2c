-- The result of `encode` with a station.
use Rattle.std.specs.Prelude.{◌≡◌, ℕ, ◌==◌, not, List, [], ◌∷◌, ◌++◌, Option, None, Some, Result, length, codes}
use Rattle.std.specs.Prelude.{if◌then◌else◌}
use Rattle.std.specs.Io.KnownBytes.{Appends}
use Rattle.dcc_packet.specs.declared.packet.Packet.{Packet}
use Rattle.dcc_packet.specs.Spelling.{spelling}
use Rattle.dcc_station.specs.declared.fault.Refused.{Refused}
use Rattle.dcc_station.specs.declared.fault.Refused.TheVariants.{NotSendable, QueueFull}
use Rattle.dcc_station.specs.Commands.{is_sendable}
use Rattle.dcc_station.specs.Sending as sending
use Rattle.dcc_send.specs.declared.encoding.Encode.{Encode}
use Rattle.dcc_io.specs.declared.fault.ToolFault.{ToolFault}
use Rattle.dcc_io.specs.Calls.{WritesOfLines}
use Rattle.dcc_io.specs.InputState.{InputState}
use Rattle.dcc_io.specs.WriterState.{WriterState}
use Rattle.dcc_io.specs.WrittenBytes.{AppendsFront}
use Rattle.dcc_send.specs.Encoded.{frame_line}
use Rattle.dcc_io.specs.StationLines.{Asked, Command, Next, station_lines}

-- the error of the command `packet` for a station in state `s`, or `None` if the station accepts
-- the command. The error is C3 if stations do not send `packet`. Otherwise it is C4 if the queue is
-- full.
abbrev pub refusal : sending.Sending → Packet → Option Refused
refusal s packet =
    if not (is_sendable packet) then Some NotSendable
    else if length s.waiting == s.queue then Some QueueFull
    else None

abbrev pub refusal_line : Refused → List ℕ
refusal_line NotSendable = codes "# refused C3\n"
refusal_line QueueFull = codes "# refused C4\n"

-- the bytes that are written for a command: the line of its error. If the station accepts the
-- command, there are no bytes.
abbrev pub command_line : Option Refused → List ℕ
command_line None = []
command_line (Some refused) = refusal_line refused

-- the state of a station in state `s` after the command `packet`. The station adds the command to
-- its queue if the command has no error.
abbrev pub after_command : sending.Sending → Packet → Option Refused → sending.Sending
after_command s packet None = sending.with_command s packet
after_command s packet (Some refused) = s

-- a station in state `s` answers a request with `bytes` and goes to state `new`. Packets are
-- written in the encoding `how`.
abbrev pub Answers : Encode → sending.Sending → Asked → List ℕ → sending.Sending → Type 0
Answers how s (Command frame) bytes new =
    (packet : Packet) × (spelling packet ≡ frame) × (bytes ≡ command_line (refusal s packet))
    × (new ≡ after_command s packet (refusal s packet))
Answers how s Next bytes new =
    (packet : Packet) × sending.Next s packet new × (bytes ≡ frame_line how (spelling packet))

-- a station in state `s` answers the requests of a list, one after the other, with `bytes` and goes
-- to state `new`
abbrev pub AnswersAll : Encode → sending.Sending → List Asked → List ℕ → sending.Sending → Type 0
AnswersAll how s [] bytes new = (bytes ≡ []) × (new ≡ s)
AnswersAll how s (item ∷ later) bytes new =
    (between : sending.Sending) × (first rest : List ℕ) × (bytes ≡ first ++ rest) × Answers how s item first between
    × AnswersAll how between later rest new

-- a station in state `s` that gets the requests `items` goes to state `new`. The answers of the
-- station to these requests were written.
pub record Wrote (how : Encode) (s : sending.Sending) (items : List Asked) (new : sending.Sending)
    (before after : WriterState) : Type 0 where
  pub bytes : List ℕ
  pub answers : AnswersAll how s items bytes new
  pub written : Appends before.contents after.contents bytes

-- a station in state `s` answers the first requests of `items`. A prefix of these answers, as one
-- list of bytes, was written.
pub record WroteFront (how : Encode) (s : sending.Sending) (before after : WriterState) (items : List Asked) : Type 0
  where
    pub first : List Asked
    pub later : List Asked
    pub whole : items ≡ first ++ later
    pub bytes : List ℕ
    pub new : sending.Sending
    pub answers : AnswersAll how s first bytes new
    pub written : AppendsFront before after bytes

-- the answers of a station in state `s` to all requests of `items` were written
abbrev pub Answered : Encode → sending.Sending → WriterState → WriterState → List Asked → Type 0
Answered how s before after items = (new : sending.Sending) × Wrote how s items new before after

-- If the result of `encode` with a station is Ok, the answers to all requests were written. After
-- an error of the input, the answers to the requests before this error were written. After a failed
-- write, a prefix of the answers was written.
abbrev pub StationText : Encode → sending.Sending → InputState → WriterState → Result (Unit {0}) ToolFault → InputState
    → WriterState → Type 0
StationText how s old before result new after =
    WritesOfLines station_lines (Answered how s before after) (WroteFront how s before after) old before result new
    after
