-- How the words of a text come to light byte by byte.
use Rattle.std.proofs.Common.{◌≡◌, ℕ, List, [], ◌∷◌, ◌++◌, Bool, true, false, cond, filter, refl, sym, ap}
use Rattle.std.proofs.Common.{append_assoc, eqb, ◌||◌, inl, inr, arith}
use Rattle.std.proofs.lemmas.Bool.{cases_Bool}
use Rattle.std.proofs.lemmas.List.{append-nil}
use Rattle.std.proofs.lemmas.Bool.Decides.{nat_tests}
use Rattle.dcc_io.specs.TextPlace.{TextPlace, line_behind}
use Rattle.dcc_io.specs.Words.{PlacedWord, is_gap, comments, without_comments, onto_first, pieces, but_last, has_bytes}
use Rattle.dcc_io.specs.Words.{ended_words}

-- the place behind a byte
abbrev pub behind : TextPlace → ℕ → TextPlace
behind place byte = record { line = line_behind place.line byte; in_comment = comments place.in_comment byte }

abbrev pub onto_front : List ℕ → List PlacedWord → List PlacedWord
onto_front front [] = []
onto_front front (word ∷ words) = record { line = word.line; bytes = front ++ word.bytes } ∷ words

-- the ended words of a text that goes on a word
abbrev pub opened : TextPlace → List ℕ → List ℕ → List PlacedWord
opened place front text =
    filter has_bytes (but_last (onto_front front (pieces place.line (without_comments place.in_comment text))))

-- a word that has ended, unless it is empty
abbrev pub ended : ℕ → List ℕ → List PlacedWord
ended line [] = []
ended line (byte ∷ word) = record { line = line; bytes = byte ∷ word } ∷ []

onto_front-none : (words : List PlacedWord) → onto_front [] words ≡ words
onto_front-none [] = refl
onto_front-none (word ∷ words) = refl

onto_front-onto_first : (front : List ℕ) (byte : ℕ) (words : List PlacedWord)
    → onto_front front (onto_first byte words) ≡ onto_front (front ++ byte ∷ []) words
onto_front-onto_first front byte [] = refl
onto_front-onto_first front byte (word ∷ words) =
    ap (λ bytes. record { line = word.line; bytes = bytes } ∷ words) (sym (append_assoc front (byte ∷ []) word.bytes))

pub opened-none : (place : TextPlace) (text : List ℕ) → opened place [] text ≡ ended_words place text
opened-none place text = simp onto_front-none

pub eqb_line_feed : (byte : ℕ) → is_gap byte ≡ false → eqb byte 10 ≡ false
unfolding is_gap
eqb_line_feed byte no_gap = grind (arith, nat_tests)

-- a byte of a word
pub opened-word : (place : TextPlace) (front : List ℕ) (byte : ℕ) (text : List ℕ)
    → comments place.in_comment byte ≡ false
    → is_gap byte ≡ false
    → opened place front (byte ∷ text) ≡ opened (behind place byte) (front ++ byte ∷ []) text
opened-word place front byte text no_comment no_gap =
    rw (no_comment, no_gap, eqb_line_feed byte no_gap, onto_front-onto_first) refl

-- some word is the first
some_pieces : (line : ℕ) (text : List ℕ) → (word : PlacedWord) × (rest : List PlacedWord)
    × (pieces line text ≡ word ∷ rest)
some_pieces line [] = (record { line = line; bytes = [] }, [], refl)
some_pieces line (byte ∷ text) =
    let more = some_pieces (line_behind line byte) text in elim (cases_Bool (is_gap byte)) [
      | inl gap ↦ (record { line = line; bytes = [] }, pieces (line_behind line byte) text, rw gap refl)
      | inr other ↦ (record { line = more.0.line; bytes = byte ∷ more.0.bytes }, more.1, rw (other, more.2) refl)
    ]

-- a piece that is followed by more has ended
closes : (line : ℕ) (front : List ℕ) (next : ℕ) (text : List ℕ)
    → filter has_bytes (but_last (record { line = line; bytes = front ++ [] } ∷ pieces next text)) ≡ ended line front
    ++ filter has_bytes (but_last (pieces next text))
closes line [] next text = let more = some_pieces next text in rw more.2 refl
closes line (byte ∷ front) next text = let more = some_pieces next text in rw (append-nil front, more.2) refl

shown_line : (in_comment : Bool) (byte line : ℕ)
    → line_behind line (cond (comments in_comment byte) 32 byte) ≡ line_behind line byte
unfolding comments
shown_line true byte line = grind (arith, nat_tests)
shown_line false byte line = grind (arith, nat_tests)

shown_gap : (c : Bool) (byte : ℕ) → (c || is_gap byte) ≡ true → is_gap (cond c 32 byte) ≡ true
unfolding is_gap
shown_gap true byte h = refl
shown_gap false byte h = h

-- a gap, or a byte of a comment
pub opened-gap : (place : TextPlace) (front : List ℕ) (byte : ℕ) (text : List ℕ)
    → (comments place.in_comment byte || is_gap byte) ≡ true
    → opened place front (byte ∷ text) ≡ ended place.line front ++ ended_words (behind place byte) text
opened-gap place front byte text gap =
    let comment = comments place.in_comment byte in
    rw (shown_gap comment byte gap, shown_line place.in_comment byte place.line)
    (closes place.line front (line_behind place.line byte) (without_comments comment text))
