-- The kind of an input, by its bytes.
use Rattle.std.specs.Prelude.{ℕ, ◌*◌, ◌==◌, ◌||◌, ◌++◌, nat_lt, List, [], ◌∷◌, Bool, Option, None, Some}
use Rattle.std.specs.Prelude.{Result, Ok, Err, length, take, codes, bytes_eq, if◌then◌else◌}
use Rattle.std.specs.List.{list_any, filter}
use Rattle.dcc_packet.specs.Words.{Word, words, is_word}
use Rattle.dcc_timing.specs.Classes.{is_above}
use Rattle.dcc_io.specs.declared.fault.KeptFault.{KeptFault}
use Rattle.dcc_io.specs.declared.fault.KeptFault.TheVariants as kept
use Rattle.dcc_io.specs.InputState.{InputState, fresh}
use Rattle.dcc_io.specs.Items.{in_text}
use Rattle.dcc_io.specs.PacketLines.{packet_lines}
use Rattle.dcc_io.specs.StationLines.{station_lines}
use Rattle.dcc_io.specs.Words.{is_mark, run_of}
use Rattle.dcc_capture.specs.Capture.{capture_in}
use Rattle.dcc_listen.specs.GatheredBoth.{both_in}
use Rattle.dcc_saved.specs.declared.saved.Saved.{Saved}
use Rattle.dcc_saved.specs.DecoderText.{decoder_text}
use Rattle.dcc_saved.specs.TextRead.{answer_in}
use Rattle.dcc_what.specs.declared.kind.Kind.{Kind}
use Rattle.dcc_what.specs.declared.kind.Kind.TheVariants as kinds
use Rattle.dcc_what.specs.declared.kind.Front.{Front}
use Rattle.dcc_what.specs.declared.kind.Front.TheVariants as fronts
use Rattle.dcc_what.specs.Lines.{first_with_word, is_run, lines_of}

-- true if `bytes` begin with `front`
abbrev pub begins_with : List ℕ → List ℕ → Bool
begins_with bytes front = bytes_eq (take (length front) bytes) front

-- the kind of a file that is no text of this program, by its first bytes
abbrev pub file_kind : List ℕ → Option Kind
file_kind bytes =
    if begins_with bytes (80 ∷ 75 ∷ 3 ∷ 4 ∷ []) then Some kinds.Zip
    else if begins_with bytes (31 ∷ 139 ∷ []) then Some kinds.Gzip
    else if begins_with bytes (239 ∷ 187 ∷ 191 ∷ []) then Some kinds.ByteOrderMark
    else if begins_with bytes (255 ∷ 254 ∷ []) || begins_with bytes (254 ∷ 255 ∷ []) then Some kinds.Utf16 else None

abbrev pub is_comma : ℕ → Bool
is_comma byte = byte == 44

-- true if `word` is the beginning of a capture: a run, or the mark `---` after an empty capture
abbrev pub begins_capture : Word → Bool
begins_capture word = is_run (run_of word) || is_mark word

-- the kind of a text whose first line with a word is `line`. The second argument are the words of
-- this line.
abbrev pub front_kind : List ℕ → List Word → Front
front_kind line [] = fronts.Empty
front_kind line (word ∷ more) =
    if list_any is_comma line then fronts.Commas
    else if begins_with word (codes "$") then fronts.Vcd
    else if begins_capture word then fronts.Halves
    else if is_word word (codes "dcc-decoders") then fronts.Decoders else fronts.Lines

-- the input with the bytes `bytes`, of which nothing was read, and the full limits
abbrev pub input_of_bytes : List ℕ → InputState
input_of_bytes bytes = fresh (Some bytes) 0 16777216 67108864

-- the text of the input `input_of_bytes bytes`
abbrev pub closed : List ℕ → List ℕ
closed bytes = bytes ++ 10 ∷ []

-- true if more than half of the half-bits `halves` are longer than 10,000 microseconds
abbrev pub is_long : List ℕ → Bool
is_long halves = nat_lt (length halves) (2 * length (filter is_above halves))

-- the kind of an input that is no capture, since line `line` has a wrong word. The second argument
-- is the error of the two captures in the input, if `same_input` reads them.
abbrev pub marked_kind : ℕ → Option KeptFault → Kind
marked_kind line None = kinds.TwoCaptures line
marked_kind line (Some (kept.Number bad)) = kinds.BadCapture bad
marked_kind line (Some fault) = kinds.TooLong

-- the kind of a capture with the half-bits `halves` and then the error `fault`. The third argument
-- is the error of the two captures in the input, if `same_input` reads them.
abbrev pub capture_kind : List ℕ → Option KeptFault → Option KeptFault → Kind
capture_kind halves None both = kinds.Capture (length halves) (is_long halves)
capture_kind halves (Some (kept.Number line)) both = marked_kind line both
capture_kind halves (Some fault) both = kinds.TooLong

-- the kind of a decoder text that has the decoders or the error `read`
abbrev pub decoders_kind : Result (List Saved) KeptFault → Kind
decoders_kind (Ok decoders) = kinds.Decoders
decoders_kind (Err (kept.Line line fault)) = kinds.BadDecoders line fault
decoders_kind (Err fault) = kinds.TooLong

-- the kind of lines that have the error `packets` as packet lines, and the error `station` as lines
-- for a station
abbrev pub lines_kind : Option KeptFault → Option KeptFault → Kind
lines_kind None station = kinds.Packets
lines_kind (Some fault) None = kinds.StationLines
lines_kind (Some (kept.Line line fault)) (Some station) = kinds.BadLines line fault
lines_kind (Some fault) (Some station) = kinds.TooLong

-- the kind of a text with the front `front`
abbrev pub text_kind : List ℕ → Front → Kind
text_kind bytes fronts.Empty = kinds.Empty
text_kind bytes fronts.Commas = kinds.Commas
text_kind bytes fronts.Vcd = kinds.Vcd
text_kind bytes fronts.Halves =
    let items = capture_in (input_of_bytes bytes) (closed bytes) in
    capture_kind items.said items.fault (both_in (input_of_bytes bytes) (closed bytes)).fault
text_kind bytes fronts.Decoders = decoders_kind (answer_in decoder_text (input_of_bytes bytes) (closed bytes))
text_kind bytes fronts.Lines =
    lines_kind (in_text packet_lines (input_of_bytes bytes) (closed bytes)).fault
    (in_text station_lines (input_of_bytes bytes) (closed bytes)).fault

-- the front of the text `bytes`
abbrev pub front_of : List ℕ → Front
front_of bytes = let line = first_with_word (lines_of bytes) in front_kind line (words line)

abbrev pub kind_or : Option Kind → Kind → Kind
kind_or None other = other
kind_or (Some kind) other = kind

-- the kind of an input with the bytes `bytes`
abbrev pub kind_of : List ℕ → Kind
kind_of bytes = kind_or (file_kind bytes) (text_kind bytes (front_of bytes))
