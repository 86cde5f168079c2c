-- A word at the beginning of a list of bytes.
use Rattle.std.specs.Prelude.{◌≡◌, ℕ, ◌+◌, Bool, ◌<◌, ◌≤◌, min, List, true, false, not, Some, ◌==◌, ◌||◌, ◌⊎◌, length}
use Rattle.std.specs.Prelude.{take}
use Rattle.std.specs.Prelude.{slice_index_or}
use Rattle.std.specs.List.{list_all}
use Rattle.dcc_io.specs.declared.word.FrontWord.{FrontWord}
use Rattle.dcc_io.specs.declared.word.ShortWord.{ShortWord}
use Rattle.dcc_io.specs.declared.word.WholeWord.{WholeWord}
use Rattle.dcc_io.specs.SpelledWords.{Spells}
use Rattle.dcc_io.specs.Words.{is_gap, duration_of}

-- `bytes` have a line feed at the place `at`
abbrev pub HasLineFeedAt : List ℕ → ℕ → Type 0
HasLineFeedAt bytes at = (at < length bytes) × (slice_index_or bytes at 0 ≡ 10)

-- `bytes` begin with a word that is the duration in `front`, and a gap follows the word
pub record IsFrontWord (bytes : List ℕ) (front : FrontWord) : Type 0 where
  pub inside : front.len < length bytes
  pub spells : duration_of (take front.len bytes) ≡ Some front.us
  pub gap : is_gap (slice_index_or bytes front.len 0) ≡ true
  pub ends_line : front.ends_line ≡ (slice_index_or bytes front.len 0 == 10)

-- `bytes` has five bytes or more, and begins with two digits of the number `us`
pub record BeginsWithTwoDigits (bytes : List ℕ) (us : ℕ) : Type 0 where
  pub inside : 5 ≤ length bytes
  pub spells : duration_of (take 2 bytes) ≡ Some us
  pub small : us < 100

-- `bytes` begin with a word that is the duration `word.us`, and with a gap after this word. The gap
-- is one byte, or a carriage return and a line feed. `word.len` is the number of bytes of the word
-- and of the gap.
pub record IsShortWord (bytes : List ℕ) (word : ShortWord) : Type 0 where
  pub len : ℕ
  pub inside : len + 1 < length bytes
  pub spells : duration_of (take len bytes) ≡ Some word.us
  pub is_gap : is_gap (slice_index_or bytes len 0) ≡ true
  pub gap : ((word.len ≡ len + 1) × (word.ends_line ≡ (slice_index_or bytes len 0 == 10)))
      ⊎ ((word.len ≡ len + 2) × (word.ends_line ≡ true) × ((slice_index_or bytes len 0 == 10) ≡ false)
      × (slice_index_or bytes (len + 1) 0 ≡ 10))

-- `front` is a word of `len` digits with the value `number`. The byte `behind` follows the word and
-- is a gap.
pub record EndedWord (number len behind : ℕ) (front : FrontWord) : Type 0 where
  pub some : 0 < len
  pub few : len ≤ 10
  pub gap : is_gap behind ≡ true
  pub us : front.us ≡ min number 65535
  pub same_len : front.len ≡ len
  pub ends_line : front.ends_line ≡ (behind == 10)

-- true if `byte` can be part of a word: it is neither a gap nor `#`
abbrev pub is_word_byte : ℕ → Bool
is_word_byte byte = not (is_gap byte || byte == 35)

-- `bytes` begin with a word of `len` bytes and a gap. `ends_line` is true if the gap is a line
-- feed.
pub record BeginsWithWord (bytes : List ℕ) (len : ℕ) (ends_line : Bool) : Type 0 where
  pub inside : len < length bytes
  pub some : 0 < len
  pub plain : list_all is_word_byte (take len bytes) ≡ true
  pub gap : is_gap (slice_index_or bytes len 0) ≡ true
  pub ends : ends_line ≡ (slice_index_or bytes len 0 == 10)

-- `bytes` begin with the word in `front` and a gap
pub record IsWholeWord (bytes : List ℕ) (front : WholeWord) : Type 0 where
  pub begins : BeginsWithWord bytes front.len front.ends_line
  pub spelled : Spells front.word (take front.len bytes)

-- true if `byte` is no line feed
abbrev pub is_within_line : ℕ → Bool
is_within_line byte = not (byte == 10)

-- `bytes` has at least `len` bytes, and its first `len` bytes contain no line feed
pub record EndNoLine (bytes : List ℕ) (len : ℕ) : Type 0 where
  pub within : len ≤ length bytes
  pub none : list_all is_within_line (take len bytes) ≡ true
