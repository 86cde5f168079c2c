use Rattle.std.specs.Prelude.{ℕ, ◌+◌, ◌∷◌, List, [], Bool, ◌==◌, if◌then◌else◌}

-- a position in a text: `line` is the number of its line, counted from 1, and `in_comment` is true
-- if the position is in a comment
pub record TextPlace : Type 0 where
  pub line : ℕ
  pub in_comment : Bool

-- the line of the byte after `byte`, if `byte` is on line `line`
abbrev pub line_behind : ℕ → ℕ → ℕ
line_behind line byte = if byte == 10 then line + 1 else line

-- the number of lines that an input has read when it has read a byte on line `line`, and the bytes
-- `rest` follow. If no bytes follow, the number stays `lines`. The byte is then the line feed after
-- the text, which is on no line.
abbrev pub lines_with : ℕ → ℕ → List ℕ → ℕ
lines_with lines line [] = lines
lines_with lines line (byte ∷ rest) = line

-- the number of lines that an input has read when it has read all bytes of a text. The text begins
-- on line `line`, and the input has read `lines` lines before the text.
abbrev pub lines_through : ℕ → ℕ → List ℕ → ℕ
lines_through lines line [] = lines
lines_through lines line (byte ∷ rest) = lines_through (lines_with lines line rest) (line_behind line byte) rest
