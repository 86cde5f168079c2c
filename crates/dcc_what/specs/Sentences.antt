-- The sentence about an input.
use Rattle.std.specs.Prelude.{ℕ, ◌++◌, ◌==◌, ◌&&◌, not, nat_le, nat_lt, List, [], ◌∷◌, Bool, Option, None}
use Rattle.std.specs.Prelude.{Some, length, take, codes, if◌then◌else◌}
use Rattle.std.specs.List.{flat_map}
use Rattle.std.specs.Fmt.{decimal}
use Rattle.hex.specs.Hex.{encode_lower}
use Rattle.dcc_packet.specs.declared.fault.PacketFault.{PacketFault}
use Rattle.dcc_packet.specs.Fault.{packet_fault_number}
use Rattle.dcc_packet.specs.Words.{Word, words}
use Rattle.dcc_what.specs.declared.kind.Kind.{Kind}
use Rattle.dcc_what.specs.declared.kind.Kind.TheVariants as kinds
use Rattle.dcc_what.specs.Lines.{first_bad, line_numbered, lines_of}
use Rattle.dcc_what.specs.Kinds.{kind_of}

-- true if `byte` is a printable ASCII character and no backslash
abbrev pub is_printable : ℕ → Bool
is_printable byte = nat_le 32 byte && (nat_le byte 126 && not (byte == 92))

-- a byte of a word: a printable character as it is, any other byte as `\x` and two hex digits
abbrev pub shown_byte : ℕ → List ℕ
shown_byte byte = if is_printable byte then byte ∷ [] else codes "\\x" ++ encode_lower (byte ∷ [])

-- the text of a word: its first 32 bytes, and `..` if it has more
abbrev pub shown_word : Word → List ℕ
shown_word word = flat_map shown_byte (take 32 word) ++ (if nat_lt 32 (length word) then codes ".." else [])

-- the sentence about a capture with `halves` half-bits. `long` is true if more than half of them are
-- longer than 10,000 microseconds.
abbrev pub capture_sentence : ℕ → Bool → List ℕ
capture_sentence halves long =
    codes "a capture of " ++ decimal halves ++ codes " half-bits"
    ++ (if long then codes ", most of them above 10000 microseconds: are these nanoseconds?" else [])

-- the sentence about two captures, with the word `---` on line `line`
abbrev pub two_captures_sentence : ℕ → List ℕ
two_captures_sentence line = codes "two captures, which `dcc same` compares, with --- on line " ++ decimal line

-- the sentence about a capture whose line `line` has the word `bad` that is no run, with its place
abbrev pub bad_word_sentence : ℕ → Option (ℕ × Word) → List ℕ
bad_word_sentence line None = codes "a capture with a wrong word on line " ++ decimal line
bad_word_sentence line (Some bad) =
    codes "a capture with a wrong word: line " ++ decimal line ++ codes ", word " ++ decimal bad.0 ++ codes ": "
    ++ shown_word bad.1

-- the text of the error `fault` on line `line`
abbrev pub fault_text : ℕ → PacketFault → List ℕ
fault_text line fault =
    codes " with error P" ++ decimal (packet_fault_number fault) ++ codes " on line " ++ decimal line

-- the sentence about the input `bytes` of the kind `kind`
abbrev pub sentence : List ℕ → Kind → List ℕ
sentence bytes kinds.Empty = codes "no words: the input is empty, or has only blank lines and comments"
sentence bytes kinds.Zip = codes "a zip archive, as sigrok writes: tools/to-capture makes a capture of it"
sentence bytes kinds.Gzip = codes "a file that gzip has compressed: gzip -d restores it"
sentence bytes kinds.ByteOrderMark = codes "a text with a byte order mark: save it as UTF-8 without this mark"
sentence bytes kinds.Utf16 = codes "a text in UTF-16: save it as UTF-8 without a byte order mark"
sentence bytes kinds.Vcd = codes "a VCD file: tools/to-capture makes a capture of it"
sentence bytes kinds.Commas = codes "a text with commas, such as a CSV file: tools/to-capture makes a capture of it"
sentence bytes (kinds.Capture halves long) = capture_sentence halves long
sentence bytes (kinds.TwoCaptures line) = two_captures_sentence line
sentence bytes (kinds.BadCapture line) =
    bad_word_sentence line (first_bad 1 (words (line_numbered line (lines_of bytes))))
sentence bytes kinds.TooLong = codes "an input that exceeds a limit: 16777216 half-bits, 67108864 bytes, 64 decoders"
sentence bytes kinds.Decoders = codes "a decoder text, which `dcc run` reads before a capture"
sentence bytes (kinds.BadDecoders line fault) = codes "a decoder text" ++ fault_text line fault
sentence bytes kinds.Packets = codes "packet lines, which `dcc encode` reads"
sentence bytes kinds.StationLines = codes "packet lines for a station, which `dcc encode --station` reads"
sentence bytes (kinds.BadLines line fault) =
    codes "no capture, and no packet lines: packet lines" ++ fault_text line fault

-- the text that `what` writes about an input with the bytes `bytes`: one line
abbrev pub what_text : List ℕ → List ℕ
what_text bytes = sentence bytes (kind_of bytes) ++ 10 ∷ []
