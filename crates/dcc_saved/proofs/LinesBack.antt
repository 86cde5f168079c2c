-- A line that was written is read again, wherever it stands.
use Rattle.std.proofs.Common.{◌≡◌, ℕ, ◌+◌, ◌*◌, ◌<◌, ◌≤◌, true, false, not, ◌&&◌, eqb, List, [], ◌∷◌, ◌++◌, length}
use Rattle.std.proofs.Common.{codes, Some, Ok, refl, ap, arith, length-append, append_assoc}
use Rattle.std.specs.Char.{is_ascii}
use Rattle.std.specs.List.{list_all, AllByRecursion}
use Rattle.std.proofs.lemmas.Bool.{and_parts, le-leb}
use Rattle.std.proofs.lemmas.Bool.Decides.{nat_tests}
use Rattle.std.proofs.lemmas.Slice.Eq.{bytes_eq-Decides}
use Rattle.dcc_packet.specs.Fields.{FieldOf, is_plain, IsToken, IsReadBack}
use Rattle.dcc_packet.specs.Words.{Word, is_separator}
use Rattle.dcc_packet.specs.Written.{spaced_words, words_in_line}
use Rattle.dcc_packet.proofs.FieldsBack.{whole_back}
use Rattle.dcc_packet.proofs.WrittenWords.{not_true, words_spaced}
use Rattle.dcc_saved.specs.DecoderLines.{keyed}
use Rattle.dcc_saved.specs.Lines.{LineOf, line_text}
use Rattle.dcc_saved.specs.ReadBack.{line_feeds}
use Rattle.dcc_saved.specs.TextReader.{Text, Reader, ◌>>=◌, first_line, after_first_line, line_by}

-- a text at this line
abbrev pub at : ℕ → List ℕ → Text
at n bytes = record { line = n; bytes = bytes }

-- these bytes are read as this value, at any line and whatever follows them
pub record Reads {A : Type 0} (read : Reader A) (bytes : List ℕ) (x : A) : Type 0 where
  pub gives : (n : ℕ) (more : List ℕ) → read (at n (bytes ++ more)) ≡ Ok (x, at (n + line_feeds bytes) more)

feeds-append : (xs ys : List ℕ) → line_feeds (xs ++ ys) ≡ line_feeds xs + line_feeds ys
feeds-append [] ys = omega arith
feeds-append (x ∷ xs) ys = grind (arith, nat_tests, feeds-append xs ys)

-- a reader and the one behind it
pub Reads-then : {A B : Type 0} {first : Reader A} (next : A → Reader B) {a b : List ℕ} {x : A} {y : B}
    → Reads first a x → Reads (next x) b y → Reads (first >>= next) (a ++ b) y
Reads-then next {a = a} {b = b} {y = y} one two = record {
  gives = λ n more.
      rw (
        append_assoc a b more,
        one.gives n (b ++ more),
        two.gives (n + line_feeds a) more,
        feeds-append a b,
      ) (ap (λ k. Ok (y, at k more)) (omega arith));
}

-- the last reader, whose value leads to what is read
pub Reads-last : {A B : Type 0} {first : Reader A} (next : A → Reader B) {a : List ℕ} {x : A} {y : B}
    → Reads first a x → ((text : Text) → next x text ≡ Ok (y, text)) → Reads (first >>= next) a y
Reads-last next {a = a} one ends =
    record { gives = λ n more. rw (one.gives n more) (ends (at (n + line_feeds a) more)) }

-- a line that is ended by a line feed, whatever text stands behind it
record Ends (line : List ℕ) : Type 0 where
  ascii : list_all is_ascii line ≡ true
  feeds : line_feeds (line ++ codes "\n") ≡ 1
  first : (rest : List ℕ) → first_line (line ++ 10 ∷ rest) ≡ line
  behind : (rest : List ℕ) → after_first_line (line ++ 10 ∷ rest) ≡ Some rest

Ends-byte : (b : ℕ) (line : List ℕ) → is_ascii b ≡ true → eqb b 10 ≡ false → Ends line → Ends (b ∷ line)
Ends-byte b line ascii other ends = record {
  ascii = rw ascii ends.ascii;
  feeds = rw other ends.feeds;
  first = λ rest. rw other (ap (λ (xs : List ℕ). b ∷ xs) (ends.first rest));
  behind = λ rest. rw other (ends.behind rest);
}

Ends-word : (word : Word) (line : List ℕ) → list_all is_plain word ≡ true → Ends line → Ends (word ++ line)
Ends-word [] line h ends = ends
Ends-word (b ∷ bs) line h ends =
    let parts = and_parts (is_plain b) (list_all is_plain bs) h in
    let byte = and_parts (is_ascii b) (not (is_separator b) && not (eqb b 10)) parts.0 in
    let other = not_true (eqb b 10) (and_parts (not (is_separator b)) (not (eqb b 10)) byte.1).1 in
    Ends-byte b (bs ++ line) byte.0 other (Ends-word bs line parts.1 ends)

Ends-spaced : (ws : List Word) → AllByRecursion IsToken ws → Ends (spaced_words ws)
Ends-spaced [] h = record { ascii = refl; feeds = refl; first = λ rest. refl; behind = λ rest. refl }
Ends-spaced (w ∷ ws) h =
    Ends-byte 32 (w ++ spaced_words ws) refl refl (Ends-word w (spaced_words ws) h.0.plain (Ends-spaced ws h.1))

-- these words are a line, and say the value
pub record Says {A : Type 0} (line : LineOf A) (x : A) (ws : List Word) : Type 0 where
  pub says : line.read ws ≡ Ok x
  pub tokens : AllByRecursion IsToken ws
  pub some : 0 < length ws
  pub short : length (words_in_line ws) ≤ 512

-- what is written for a value says it
abbrev pub IsLineBack : {A : Type 0} → LineOf A → Type 0
IsLineBack {A = A} line = (x : A) → line.Fits x → Says line x (line.written x)

-- so the line is read again
words_read : {A : Type 0} (line : LineOf A) (x : A) (ws : List Word) → Says line x ws
    → Reads (line_by line) (words_in_line ws ++ codes "\n") x
words_read line x [] is = absurd (omega (arith, is.some))
words_read line x (word ∷ ws) is =
    let bytes : List ℕ = word ++ spaced_words ws in
    let ends = Ends-word word (spaced_words ws) is.tokens.0.plain (Ends-spaced ws is.tokens.1) in
    record {
      gives = λ n more.
          rw (
            append_assoc bytes (codes "\n") more,
            ends.first more,
            ends.behind more,
            le-leb (length bytes) 512 is.short,
            ends.ascii,
            words_spaced word ws is.tokens.0 is.tokens.1,
            is.says,
            ends.feeds,
          ) refl;
    }

pub line_back : {A : Type 0} (line : LineOf A) → IsLineBack line → (x : A) → line.Fits x
    → Reads (line_by line) (line_text line x) x
line_back line is x fits = words_read line x (line.written x) (is x fits)

spaced_short : (ws : List Word) → AllByRecursion IsToken ws → length (spaced_words ws) ≤ 13 * length ws
spaced_short [] h = omega arith
spaced_short (w ∷ ws) h = omega (arith, h.0.short, spaced_short ws h.1, length-append w (spaced_words ws))

-- a few words are short enough
pub few_say : {A : Type 0} (line : LineOf A) (x : A) (word : Word) (ws : List Word) → AllByRecursion IsToken (word ∷ ws)
    → length ws ≤ 38 → line.read (word ∷ ws) ≡ Ok x → Says line x (word ∷ ws)
few_say line x word ws tokens few says = record {
  says = says;
  tokens = tokens;
  some = omega arith;
  short = omega (arith, tokens.0.short, spaced_short ws tokens.1, length-append word (spaced_words ws));
}

-- a line of a keyword and a few fields
pub keyed_back : {A : Type 0} (name : Word) (field : FieldOf A) → IsToken name → IsReadBack field
    → ((x : A) → field.Fits x → length (field.written x) ≤ 38) → IsLineBack (keyed name field)
keyed_back name field token back few x fits =
    few_say (keyed name field) x name (field.written x) (token, back.tokens x fits) (few x fits)
    (rw ((bytes_eq-Decides name name).1 refl, whole_back field back x fits) refl)
