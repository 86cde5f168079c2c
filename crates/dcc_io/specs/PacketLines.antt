-- The items of the lines of a text. The items of packet lines are frames.
use Rattle.std.specs.Prelude.{ℕ, ◌∷◌, ◌==◌, ◌||◌, List, [], Bool, false, not, Option, Some, Result, Ok, Err}
use Rattle.std.specs.Prelude.{if◌then◌else◌}
use Rattle.dcc_packet.specs.declared.fault.PacketFault.{PacketFault}
use Rattle.dcc_packet.specs.declared.fault.PacketFault.TheVariants as faults
use Rattle.std.specs.List.{list_all}
use Rattle.dcc_packet.specs.Words.{Word, is_separator, words}
use Rattle.dcc_packet.specs.Line.{frame_of_words}
use Rattle.dcc_io.specs.declared.fault.KeptFault.{KeptFault}
use Rattle.dcc_io.specs.declared.fault.KeptFault.TheVariants as kept
use Rattle.dcc_io.specs.InputState.{InputState}
use Rattle.dcc_io.specs.NumberedLines.{NumberedLine, lines_from, is_good}
use Rattle.dcc_io.specs.Items.{Items, Grammar, in_text, only_fault, items_behind}

-- true if the first byte of the line is `#`
abbrev pub is_comment_line : List ℕ → Bool
is_comment_line [] = false
is_comment_line (byte ∷ line) = byte == 35

-- true if `line` is a comment or blank. A blank line consists of spaces, tabs and carriage returns.
abbrev pub is_skipped : List ℕ → Bool
is_skipped line = is_comment_line line || list_all is_separator line

-- the meaning of the lines of a text. The function `said` gives the value that the words of a line
-- mean. The function `items` gives the items of this value.
pub record Saying (A B : Type 0) : Type 0 where
  pub said : List Word → Result B PacketFault
  pub items : B → List A

-- the items of the value that the words of line `number` mean, and then the items `rest`. If these
-- words have an error, the result has no items and this error.
abbrev pub behind_words : {A B : Type 0} → Saying A B → ℕ → Result B PacketFault → Items A → Items A
behind_words saying number (Ok says) rest = items_behind (saying.items says) rest
behind_words saying number (Err fault) rest = only_fault (Some (kept.Line number fault))

-- the items of the line `line`, which ends with a line feed, and then the items `rest`. If `line`
-- has an error, the result has no items and this error. A blank line and a comment have no items.
abbrev pub behind_line : {A B : Type 0} → Saying A B → NumberedLine → Items A → Items A
behind_line saying line rest =
    if not (is_good line.bytes) then only_fault (Some (kept.Line line.number faults.Word))
    else if is_skipped line.bytes then rest
    else behind_words saying line.number (saying.said (words line.bytes)) rest

-- the result for a last line `line` without a line feed. The result has no items. Its error is P10
-- if `line` is invalid, otherwise `last`.
abbrev pub open_line : {A : Type 0} → NumberedLine → Option KeptFault → Items A
open_line line last =
    if is_good line.bytes then only_fault last else only_fault (Some (kept.Line line.number faults.Word))

-- the items of a list of lines before the first error, and this error. The last line has no line
-- feed. If no line has an error, the error is `last`.
abbrev pub items_of : {A B : Type 0} → Saying A B → List NumberedLine → Option KeptFault → Items A
items_of saying [] last = only_fault last
items_of saying (line ∷ []) last = open_line line last
items_of saying (line ∷ next ∷ lines) last = behind_line saying line (items_of saying (next ∷ lines) last)

-- the grammar that gives the items of lines with the meaning `saying`
abbrev pub lines_by : {A B : Type 0} → Saying A B → Grammar A
lines_by saying input bytes last = items_of saying (lines_from input.place.line bytes) last

-- the items of lines with the meaning `saying` in an `input` whose text is `text`
abbrev pub items_in : {A B : Type 0} → Saying A B → InputState → List ℕ → Items A
items_in saying input text = in_text (lines_by saying) input text

-- the meaning of packet lines. The words of a line mean a frame, and this frame is the only item of
-- the line.
abbrev pub packet_words : Saying (List ℕ) (List ℕ)
packet_words = record { said = frame_of_words; items = λ frame. frame ∷ [] }

-- the frames that the packet lines of an `input` with the text `text` mean
abbrev pub frames_in : InputState → List ℕ → Items (List ℕ)
frames_in input text = items_in packet_words input text

abbrev pub packet_lines : Grammar (List ℕ)
packet_lines = lines_by packet_words
