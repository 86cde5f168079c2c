-- A word that has ended in the bytes at hand.
use Rattle.std.proofs.Common.{◌≡◌, ◌≢◌, ℕ, List, [], ◌∷◌, ◌++◌, drop, get_or, length, ◌<◌, ◌+◌, Bool, true, false}
use Rattle.std.proofs.Common.{refl, sym, ◌∙◌, ◌||◌}
use Rattle.dcc_io.specs.TextPlace.{TextPlace, line_behind}
use Rattle.dcc_io.specs.Words.{is_gap, comments, ended_words, is_some_byte}
use Rattle.std.proofs.lemmas.List.{drop_more}
use Rattle.dcc_io.proofs.PassedLemmas.{or_false, no_bytes, ended-some}
use Rattle.dcc_io.proofs.WordsLemmas.{opened, opened-none, opened-word, opened-gap}

abbrev pub outside : ℕ → TextPlace
outside line = record { line = line; in_comment = false }

-- some of these bytes were looked at, which end within a word or not, in a comment or not
pub record LooksAt (start : TextPlace) (bytes rest : List ℕ) (in_comment in_word : Bool) : Type 0 where
  pub at : ℕ
  pub word : List ℕ
  pub goes_on : ended_words start bytes ≡ opened (record { line = at; in_comment = in_comment }) word rest
  pub is_word : in_word ≡ is_some_byte word

some_behind : (word : List ℕ) (byte : ℕ) → is_some_byte (word ++ byte ∷ []) ≡ true
some_behind [] byte = refl
some_behind (first ∷ word) byte = refl

-- the same, of the bytes behind an index
abbrev pub LooksBehind : Bool → List ℕ → ℕ → Bool → Bool → Type 0
LooksBehind first bytes index in_comment in_word =
    (line : ℕ) → LooksAt (record { line = line; in_comment = first }) bytes (drop index bytes) in_comment in_word

pub looks_at_start : (first : Bool) (bytes : List ℕ) → LooksBehind first bytes 0 first false
looks_at_start first bytes line =
    record {
      at = line;
      word = [];
      goes_on = sym (opened-none (record { line = line; in_comment = first }) bytes);
      is_word = refl;
    }

module _ (first : Bool) (bytes : List ℕ) (index : ℕ) (in_comment in_word : Bool) (inside : index < length bytes)
    (looks : LooksBehind first bytes index in_comment in_word) where
  abbrev byte : ℕ
  byte = get_or bytes index 0

  next_at : (line : ℕ)
      → LooksAt (record { line = line; in_comment = first }) bytes (byte ∷ drop (index + 1) bytes) in_comment in_word
  next_at line = rw (drop_more bytes index 0 inside) at (looks line)

  pub word_behind : (comments in_comment byte || is_gap byte) ≡ false
      → LooksBehind first bytes (index + 1) (comments in_comment byte) true
  word_behind no_end line =
      let looks = next_at line in
      let both = or_false (comments in_comment byte) (is_gap byte) no_end in
      record {
        at = line_behind looks.at byte;
        word = looks.word ++ byte ∷ [];
        goes_on = looks.goes_on ∙ opened-word _ looks.word byte _ both.0 both.1;
        is_word = sym (some_behind looks.word byte);
      }

  pub gap_behind : in_word ≡ false → (comments in_comment byte || is_gap byte) ≡ true
      → LooksBehind first bytes (index + 1) (comments in_comment byte) in_word
  gap_behind none ends line =
      let looks = next_at line in
      let empty = no_bytes looks.word (sym looks.is_word ∙ none) in
      record {
        at = line_behind looks.at byte;
        word = [];
        goes_on = rw empty at (looks.goes_on ∙ opened-gap _ looks.word byte _ ends) ∙ sym (opened-none _ _);
        is_word = none;
      }

  -- a gap or a comment behind a word ends it
  pub found_behind : (line : ℕ) → (comments in_comment byte || is_gap byte) ≡ true → in_word ≡ true
      → ended_words (record { line = line; in_comment = first }) bytes ≢ []
  found_behind line ends some =
      let looks = next_at line in
      let word = ended-some looks.at looks.word (sym looks.is_word ∙ some) in
      rw (looks.goes_on ∙ opened-gap _ looks.word byte _ ends, word) (λ none. cc)
