-- The lines of a text and their words. The part of a line after a `#` is a comment.
use Rattle.std.specs.Prelude.{ℕ, ◌+◌, ◌-◌, ◌==◌, List, [], ◌∷◌, Bool, true, false, Option, None, Some, if◌then◌else◌}
use Rattle.std.specs.List.{slice_split, before_first}
use Rattle.dcc_packet.specs.Words.{Word, words}
use Rattle.dcc_io.specs.declared.word.Run.{Run}
use Rattle.dcc_io.specs.Words.{run_of}

abbrev pub is_line_feed : ℕ → Bool
is_line_feed byte = byte == 10

abbrev pub is_hash : ℕ → Bool
is_hash byte = byte == 35

-- the lines of `text`, without their line feeds
abbrev pub lines_of : List ℕ → List (List ℕ)
lines_of text = slice_split is_line_feed text

-- the part of `line` before its first `#`
abbrev pub without_comment : List ℕ → List ℕ
without_comment line = before_first is_hash line

-- `line` if it has a word, otherwise `rest`
abbrev pub line_or : List Word → List ℕ → List ℕ → List ℕ
line_or [] line rest = rest
line_or (word ∷ more) line rest = line

-- the first line of `lines` that has a word, without its comment. The result is empty if no line has
-- a word.
abbrev pub first_with_word : List (List ℕ) → List ℕ
first_with_word [] = []
first_with_word (line ∷ lines) =
    line_or (words (without_comment line)) (without_comment line) (first_with_word lines)

-- the line with the number `number` of the lines `lines`, without its comment. Lines count from 1.
-- The result is empty if there is no such line.
abbrev pub line_numbered : ℕ → List (List ℕ) → List ℕ
line_numbered number [] = []
line_numbered number (line ∷ lines) =
    if number == 1 then without_comment line else line_numbered (number - 1) lines

-- true if `run` is a run
abbrev pub is_run : Option Run → Bool
is_run None = false
is_run (Some run) = true

-- the first word of `list` that is no run, and its place. The first word of `list` has the place
-- `place`.
abbrev pub first_bad : ℕ → List Word → Option (ℕ × Word)
first_bad place [] = None
first_bad place (word ∷ list) = if is_run (run_of word) then first_bad (place + 1) list else Some (place, word)
