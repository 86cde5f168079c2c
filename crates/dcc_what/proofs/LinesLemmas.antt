-- The lines of a text, one after the other.
use Rattle.std.proofs.Common.{◌≡◌, ℕ, ◌+◌, ◌-◌, ◌<◌, ◌≤◌, ◌^◌, Bool, true, false, not, List, [], ◌∷◌, length, take}
use Rattle.std.proofs.Common.{drop, All, decimal, eqb, refl, ap, sym, ◌∙◌, arith, inl, inr, nat_lt}
use Rattle.std.proofs.Common.{filter, cond, suc, None}
use Rattle.std.specs.List.{slice_split, position_or_len, flat_map, onto_first}
use Rattle.std.proofs.lemmas.Bool.{cases_lt}
use Rattle.std.proofs.lemmas.Bool.Decides.{nat_tests}
use Rattle.std.proofs.lemmas.Fmt.{length-decimal-le}
use Rattle.std.proofs.lemmas.List.{append-nil, nil_from_length, take_all}
use Rattle.std.proofs.lemmas.List.Sums.{fails_before_first, prefix_len-le-length}
use Rattle.std.proofs.lemmas.List.Splits.{slice_split_first, slice_split_none}
use Rattle.dcc_packet.specs.Words.{Word, is_separator, words}
use Rattle.dcc_packet.proofs.FirstWord.{filter_some, is_some_word}
use Rattle.dcc_what.specs.Lines.{first_bad, first_with_word, is_line_feed, line_numbered, lines_of, without_comment}
use Rattle.dcc_what.specs.Sentences.{shown_byte, shown_word}

-- numbers of 64 bits have at most 20 digits
pub decimal_is_short : (n : ℕ) → n < 2 ^ 64 → length (decimal n) ≤ 20
decimal_is_short n small = length-decimal-le 20 n (omega arith) (omega arith) (omega arith)

pub place_bound : (text : List ℕ) → position_or_len is_line_feed text ≤ length text
place_bound text = prefix_len-le-length (λ x. not (is_line_feed x)) text

-- a line, and the lines after its line feed
next_lines : (text : List ℕ) (len : ℕ) → len ≡ position_or_len is_line_feed text → len < length text
    → lines_of text ≡ take len text ∷ lines_of (drop (len + 1) text)
next_lines text len is more = rw is (slice_split_first is_line_feed text 0 (omega (arith, is, more)))

-- a text without a line feed is one line
last_line : (text : List ℕ) (len : ℕ) → len ≡ position_or_len is_line_feed text → length text ≤ len
    → lines_of text ≡ take len text ∷ []
last_line text len is none =
    let fails : All (λ x. is_line_feed x ≡ false) text =
    λ k d lt. fails_before_first is_line_feed text k d (omega (arith, is, none, lt)) in
    slice_split_none is_line_feed text fails ∙ ap (λ (line : List ℕ). line ∷ []) (sym (take_all len text none))

-- the lines of a text begin with the bytes before its first line feed
abbrev Begins : List ℕ → ℕ → Type 0
Begins text len = (lines : List (List ℕ)) × (lines_of text ≡ take len text ∷ lines)

begins : (text : List ℕ) (len : ℕ) → len ≡ position_or_len is_line_feed text → Begins text len
begins text len is =
    elim (cases_lt len (length text)) [
      | inl lt ↦ (lines_of (drop (len + 1) text), next_lines text len is lt)
      | inr ge ↦ ([], last_line text len is ge)
    ]

pub line_with_words : (text line : List ℕ) (len : ℕ) (word : Word) (more : List Word)
    → len ≡ position_or_len is_line_feed text → line ≡ without_comment (take len text) → words line ≡ word ∷ more
    → first_with_word (lines_of text) ≡ line
line_with_words text line len word more is at some =
    let found = begins text len is in
    rw (found.1, ← at, some) refl

pub line_without_words : (text line : List ℕ) (len : ℕ) → len ≡ position_or_len is_line_feed text
    → line ≡ without_comment (take len text) → words line ≡ [] → len < length text
    → first_with_word (lines_of text) ≡ first_with_word (lines_of (drop (len + 1) text))
line_without_words text line len is at none lt = rw (next_lines text len is lt, ← at, none) refl

pub no_line_with_words : (text line : List ℕ) (len : ℕ) → len ≡ position_or_len is_line_feed text
    → line ≡ without_comment (take len text) → words line ≡ [] → length text ≤ len
    → first_with_word (lines_of text) ≡ []
no_line_with_words text line len is at none ge = rw (last_line text len is ge, ← at, none) refl

pub numbered_here : (text : List ℕ) (len number : ℕ) → len ≡ position_or_len is_line_feed text
    → eqb number 1 ≡ true → line_numbered number (lines_of text) ≡ without_comment (take len text)
numbered_here text len number is one =
    let found = begins text len is in
    rw (found.1, one) refl

pub numbered_next : (text : List ℕ) (len number : ℕ) → len ≡ position_or_len is_line_feed text → len < length text
    → eqb number 1 ≡ false
    → line_numbered number (lines_of text) ≡ line_numbered (number - 1) (lines_of (drop (len + 1) text))
numbered_next text len number is lt other = rw (next_lines text len is lt, other) refl

pub numbered_nowhere : (text : List ℕ) (len number : ℕ) → len ≡ position_or_len is_line_feed text
    → length text ≤ len → eqb number 1 ≡ false → line_numbered number (lines_of text) ≡ []
numbered_nowhere text len number is ge other = rw (last_line text len is ge, other) refl

fewer_words : (word : List ℕ) (parts : List (List ℕ))
    → length (filter is_some_word parts) ≤ length (filter is_some_word (word ∷ parts))
fewer_words [] parts = omega arith
fewer_words (byte ∷ word) parts = rw (filter_some (byte ∷ word) parts (omega arith)) (omega arith)

some_words : (p : ℕ → Bool) (bytes : List ℕ) → length (filter is_some_word (slice_split p bytes)) ≤ length bytes
some_words p [] = omega arith
some_words p (byte ∷ bytes) = go (p byte) (slice_split p bytes) (some_words p bytes)
  where
    go : (cuts : Bool) (parts : List (List ℕ)) → length (filter is_some_word parts) ≤ length bytes
        → length (filter is_some_word (cond cuts ([] ∷ parts) (onto_first byte parts))) ≤ suc (length bytes)
    go true parts few = omega (arith, few)
    go false [] few = omega arith
    go false (word ∷ parts) few =
        let fewer = fewer_words word parts in
        rw (filter_some (byte ∷ word) parts (omega arith)) (omega (arith, few, fewer))

-- a line has at most as many words as bytes
pub few_words : (line : List ℕ) → length (words line) ≤ length line
few_words line = some_words is_separator line

-- the text of a word with at most 32 bytes, and of a longer word
pub short_word : (word : List ℕ) → length word ≤ 32 → shown_word word ≡ flat_map shown_byte word
short_word word short =
    let whole : take 32 word ≡ word = take_all 32 word short in
    let test : nat_lt 32 (length word) ≡ false = grind (arith, nat_tests) in
    rw (whole, test) (append-nil (flat_map shown_byte word))

pub no_bad_word : (line : List ℕ) (list : List Word) (place : ℕ) → first_bad 1 (words line) ≡ first_bad (place + 1) list
    → place + length list ≡ length (words line) → length line ≤ place → first_bad 1 (words line) ≡ None
no_bad_word line list place same total past =
    let few = few_words line in
    let none : list ≡ [] = nil_from_length list (omega (arith, total, past, few)) in
    same ∙ rw none refl
