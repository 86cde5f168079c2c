-- The lines of a text.
use Rattle.std.specs.Prelude.{ℕ, ◌+◌, ◌∷◌, List, [], Bool, length, nat_le, ◌&&◌, ◌==◌, if◌then◌else◌}
use Rattle.std.specs.Char.{is_ascii}
use Rattle.std.specs.List.{list_all}

-- a line without its line feed, and its number
pub record NumberedLine : Type 0 where
  pub number : ℕ
  pub bytes : List ℕ

abbrev pub onto_first_line : ℕ → List NumberedLine → List NumberedLine
onto_first_line byte [] = []
onto_first_line byte (line ∷ lines) = record { number = line.number; bytes = byte ∷ line.bytes } ∷ lines

-- the lines of a text. The first line has the number `number`. The last line has no line feed.
abbrev pub lines_from : ℕ → List ℕ → List NumberedLine
lines_from number [] = record { number = number; bytes = [] } ∷ []
lines_from number (byte ∷ text) =
    if byte == 10 then record { number = number; bytes = [] } ∷ lines_from (number + 1) text
    else onto_first_line byte (lines_from number text)

-- true if `line` is valid: it has at most 512 bytes, and all of them are ASCII
abbrev pub is_good : List ℕ → Bool
is_good line = nat_le (length line) 512 && list_all is_ascii line
