-- Fields of packet lines. A field is a sequence of words of a line. The definition of a field has
-- three parts: the possible values of the field, a rule that parses its words, and a rule that
-- writes its words.
use Rattle.std.specs.Prelude.{◌≡◌, ℕ, ◌≤◌, ◌<◌, ◌==◌, nat_le, ◌&&◌, not, Bool, true, List, [], ◌∷◌, ◌++◌, length}
use Rattle.std.specs.Prelude.{Result, Ok, Err}
use Rattle.std.specs.Char.{is_ascii}
use Rattle.std.specs.Fmt.{decimal}
use Rattle.std.specs.List.{list_all, AllByRecursion}
use Rattle.dcc_packet.specs.declared.fault.PacketFault.{PacketFault}
use Rattle.dcc_packet.specs.declared.fault.PacketFault.TheVariants as faults
use Rattle.dcc_packet.specs.Words.{Word, is_separator}
use Rattle.dcc_packet.specs.LineWords.{◌>>=◌}

-- the value that `rule` returns for the first word of a list, and the words after this word. If the
-- list is empty, the result is the error P10.
abbrev pub word_and_rest : {A : Type 0} → (Word → Result A PacketFault) → List Word → Result (A × List Word) PacketFault
word_and_rest rule [] = Err faults.Word
word_and_rest rule (word ∷ rest) = do
  x ← rule word
  Ok (x, rest)

-- `Ok` if a list of words is empty, otherwise the error P10
abbrev pub no_more_words : List Word → Result (Unit {0}) PacketFault
no_more_words [] = Ok tt
no_more_words (word ∷ rest) = Err faults.Word

-- the result `read` of a parser is the value `x` and the unparsed words `rest`, or the error
-- `fault`
abbrev pub ParsesAs : {A : Type 0} → Result (A × List Word) PacketFault → Result A PacketFault → List Word → Type 0
ParsesAs read (Ok x) rest = read ≡ Ok (x, rest)
ParsesAs read (Err fault) rest = read ≡ Err fault

-- a field with values of type `A`
pub record FieldOf (A : Type 0) : Type 1 where
  -- the values that the field can have
  pub Fits : A → Type 0
  -- the value that the first words of a list mean, and the words after these words. If the words
  -- have an error, the result is the first error.
  pub read : List Word → Result (A × List Word) PacketFault
  -- the words that the field writes for a value
  pub written : A → List Word

-- a field of one word that can have each value of its type. The function `rule` parses the word,
-- and the function `word` writes it.
abbrev pub one_word : {A : Type 0} → (Word → Result A PacketFault) → (A → Word) → FieldOf A
one_word rule word =
    record { Fits = λ x. Unit {0}; read = λ words. word_and_rest rule words; written = λ x. word x ∷ [] }

-- a field of one word, which is a number in decimal digits. The function `rule` parses the number,
-- `make` makes a value of it, and `number_of` returns the number of a value.
abbrev pub one_number : {A : Type 0} → (Word → Result ℕ PacketFault) → (ℕ → Result A PacketFault) → (A → ℕ) → FieldOf A
one_number rule make number_of = one_word (λ word. rule word >>= make) (λ x. decimal (number_of x))

-- the field `first` followed by the field `second`
abbrev pub both : {A B : Type 0} → FieldOf A → FieldOf B → FieldOf (A × B)
both first second = record {
  Fits = λ x. first.Fits x.0 × second.Fits x.1;
  read = λ words. do
    x ← first.read words
    y ← second.read x.1
    Ok ((x.0, y.0), y.1);
  written = λ x. first.written x.0 ++ second.written x.1;
}

-- the value that `words` mean as a `field`. If a word follows the words of the field, the result is
-- the error P10.
abbrev pub whole : {A : Type 0} → FieldOf A → List Word → Result A PacketFault
whole field words = do
  x ← field.read words
  end ← no_more_words x.1
  Ok x.0

-- true if byte `b` can be part of a word: it is ASCII, but no separator and no line feed
abbrev pub is_plain : ℕ → Bool
is_plain b = is_ascii b && (not (is_separator b) && not (b == 10))

-- `word` can be written in a line: it has 1 to 12 bytes, each of which can be part of a word
pub record IsToken (word : Word) : Type 0 where
  pub some : 0 < length word
  pub plain : list_all is_plain word ≡ true
  pub short : length word ≤ 12

-- true if `word` can be written in a line: it has 1 to 12 bytes, each of which can be part of a
-- word
abbrev pub is_keyword : Word → Bool
is_keyword word = nat_le 1 (length word) && nat_le (length word) 12 && list_all is_plain word

-- the words that `field` writes for a value can be written in a line. Let any words `rest` follow
-- the written words. Then `field` parses the written words as this value, and returns `rest`.
pub record IsReadBack {A : Type 0} (field : FieldOf A) : Type 0 where
  pub back : (x : A) (rest : List Word) → field.Fits x → field.read (field.written x ++ rest) ≡ Ok (x, rest)
  pub tokens : (x : A) → field.Fits x → AllByRecursion IsToken (field.written x)
