-- The words of a capture, and their runs of half-bits.
use Rattle.std.specs.Prelude.{◌≡◌, ℕ, ◌∷◌, ◌++◌, List, [], Bool, true, false, Option, None, Some, ◌==◌, ◌||◌, ◌&&◌}
use Rattle.std.specs.Prelude.{nat_lt, nat_le, min, length, filter, if◌then◌else◌}
use Rattle.std.specs.List.{list_all}
use Rattle.std.specs.Char.{is_ascii_digit}
use Rattle.std.specs.Str.Parse.{digits_value}
use Rattle.dcc_io.specs.declared.word.Run.{Run}
use Rattle.dcc_io.specs.TextPlace.{TextPlace, line_behind}

-- a word and the number of the line that it is on
pub record PlacedWord : Type 0 where
  pub line : ℕ
  pub bytes : List ℕ

-- true if `byte` is a gap, which separates words: a space, a tab, a carriage return or a line feed
unfoldable pub is_gap : ℕ → Bool
is_gap byte = byte == 32 || (byte == 9 || (byte == 13 || byte == 10))

-- true if `byte` is in a comment. A comment begins with `#` and ends before a line feed.
-- `in_comment` is true if the byte before `byte` is in a comment.
unfoldable pub comments : Bool → ℕ → Bool
comments in_comment byte = if byte == 10 then false else (in_comment || byte == 35)

-- the text with a space in place of each byte of a comment. If `in_comment` is true, the text
-- begins within a comment.
abbrev pub without_comments : Bool → List ℕ → List ℕ
without_comments in_comment [] = []
without_comments in_comment (byte ∷ text) =
    (if comments in_comment byte then 32 else byte) ∷ without_comments (comments in_comment byte) text

abbrev pub onto_first : ℕ → List PlacedWord → List PlacedWord
onto_first byte [] = []
onto_first byte (word ∷ words) = record { line = word.line; bytes = byte ∷ word.bytes } ∷ words

-- the parts of a text between its gaps, each with the number of its line. The text begins on line
-- `line`.
abbrev pub pieces : ℕ → List ℕ → List PlacedWord
pieces line [] = record { line = line; bytes = [] } ∷ []
pieces line (byte ∷ text) =
    let rest = pieces (line_behind line byte) text in
    if is_gap byte then record { line = line; bytes = [] } ∷ rest else onto_first byte rest

abbrev pub but_last : List PlacedWord → List PlacedWord
but_last [] = []
but_last (word ∷ []) = []
but_last (word ∷ next ∷ words) = word ∷ but_last (next ∷ words)

abbrev pub is_some_byte : List ℕ → Bool
is_some_byte [] = false
is_some_byte (byte ∷ bytes) = true

abbrev pub has_bytes : PlacedWord → Bool
has_bytes word = is_some_byte word.bytes

-- the complete words of `text`, which begins at `place`. The bytes after the last gap are not a
-- complete word, since the word can go on after the end of `text`.
abbrev pub ended_words : TextPlace → List ℕ → List PlacedWord
ended_words place text = filter has_bytes (but_last (pieces place.line (without_comments place.in_comment text)))

-- the duration that `word` writes in 1 to 10 digits, or `None` if `word` has another form. A
-- duration above 65,535 counts as 65,535.
abbrev pub duration_of : List ℕ → Option ℕ
duration_of word =
    if nat_lt 0 (length word) && (nat_le (length word) 10 && list_all is_ascii_digit word)
    then Some (min (digits_value 10 word) 65535) else None

-- the number from 1 to 16,777,216 that `bytes` write in 1 to 8 digits, or `None` if `bytes` have no
-- such number
abbrev pub count_in_word : List ℕ → Option ℕ
count_in_word bytes =
    if nat_lt 0
    (length bytes) && (nat_le (length bytes) 8 && list_all is_ascii_digit bytes) &&
    (nat_lt 0 (digits_value 10 bytes) && nat_le (digits_value 10 bytes) 16777216)
    then Some (digits_value 10 bytes) else None

-- the bytes of a word before its first `*`, or all its bytes if it has no `*`
abbrev pub before_star : List ℕ → List ℕ
before_star [] = []
before_star (byte ∷ word) = if byte == 42 then [] else byte ∷ before_star word

-- the bytes of a word after its first `*`, or `None` if it has no `*`
abbrev pub behind_star : List ℕ → Option (List ℕ)
behind_star [] = None
behind_star (byte ∷ word) = if byte == 42 then Some word else behind_star word

-- the number in the bytes `count` after the `*` of a word. If the word has no `*`, the result is 1.
abbrev pub times : Option (List ℕ) → Option ℕ
times None = Some 1
times (Some count) = count_in_word count

abbrev pub run_with : Option ℕ → Option ℕ → Option Run
run_with None n = None
run_with (Some us) None = None
run_with (Some us) (Some n) = Some (record { us = us; n = n })

-- the run that `word` writes: a duration, or a duration, `*` and a count. The result is `None` for
-- any other word.
abbrev pub run_of : List ℕ → Option Run
run_of word = run_with (duration_of (before_star word)) (times (behind_star word))

abbrev pub is_dash : ℕ → Bool
is_dash byte = byte == 45

-- true if `word` is `---`. As the only word of a line it separates the two captures of an input.
abbrev pub is_mark : List ℕ → Bool
is_mark word = length word == 3 && list_all is_dash word

-- the position `from` becomes `to` after `bytes`. Let any bytes `more` follow `bytes`. The words of
-- `bytes` and `more` from the position `from` on are `words`, and then the words of `more` from the
-- position `to` on.
abbrev pub Passes : TextPlace → List ℕ → List PlacedWord → TextPlace → Type 0
Passes from bytes words to = (more : List ℕ) → ended_words from (bytes ++ more) ≡ words ++ ended_words to more
