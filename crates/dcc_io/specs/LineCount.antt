-- A theorem about the number of lines of an input.
use Rattle.std.specs.Prelude.{◌≡◌, ℕ, ◌+◌, ◌∷◌, ◌++◌, ◌==◌, List, [], Some, if◌then◌else◌}
use Rattle.dcc_io.specs.InputState.{fresh, all_lines}

-- the number of lines of a text: one for each line feed, plus one if bytes follow the last line
-- feed
abbrev pub line_count : List ℕ → ℕ
line_count [] = 0
line_count (byte ∷ []) = 1
line_count (byte ∷ next ∷ text) = if byte == 10 then 1 + line_count (next ∷ text) else line_count (next ∷ text)

-- if a new input has read all of its `text`, and the line feed after it, it has read as many lines
-- as `text` has
abbrev pub LinesAreCounted : Type 0
LinesAreCounted = (text : List ℕ) (failures halves bytes : ℕ)
    → all_lines (fresh (Some text) failures halves bytes) (text ++ 10 ∷ []) ≡ line_count text
