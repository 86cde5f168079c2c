-- Forms of lines. A form consists of a keyword and a field. A table lists the forms that a kind of
-- line can have. The forms of a table have different keywords.
use Rattle.std.specs.Prelude.{◌≡◌, Bool, true, false, not, ◌&&◌, ◌||◌, List, [], ◌∷◌, ◌++◌, if◌then◌else◌}
use Rattle.std.specs.Prelude.{Option, Some, is_some, MatchOption, Result, Ok, Err}
use Rattle.std.specs.List.{AllByRecursion}
use Rattle.std.specs.Option.{option_map, option_map_or}
use Rattle.dcc_packet.specs.declared.fault.PacketFault.{PacketFault}
use Rattle.dcc_packet.specs.declared.fault.PacketFault.TheVariants as faults
use Rattle.dcc_packet.specs.Words.{Word, is_word}
use Rattle.dcc_packet.specs.LineWords.{◌>>=◌}
use Rattle.dcc_packet.specs.Fields.{FieldOf, IsToken, is_keyword, no_more_words}

-- a form. A line of this form means a value of type `A`. The field of the form has values of type
-- `B`.
pub record FormOf (A B : Type 0) : Type 0 where
  -- the word before the field
  pub keyword : Word
  -- the value that a line of this form means, if the field of the line has a given value
  pub says : B → A
  -- the value of the field in the line that means a given value. If no line of this form means this
  -- value, the result is `None`.
  pub said : A → Option B

-- a row of a table of forms: a form and its field
pub record RowOf (A : Type 0) : Type 1 where
  pub keyword : Word
  -- the values that a line of this form can mean
  pub Fits : A → Type 0
  -- the value that the words after the keyword mean, and the words after the field. If the words
  -- have an error, the result is the first error.
  pub read : List Word → Result (A × List Word) PacketFault
  -- the words after the keyword in the line that means a given value. If no line of this form means
  -- this value, the result is `None`.
  pub written : A → Option (List Word)

-- the row that consists of `form` and its field `fields`
abbrev pub row : {A B : Type 0} → FieldOf B → FormOf A B → RowOf A
row fields form = record {
  keyword = form.keyword;
  Fits = λ value. MatchOption (form.said value) (Unit {0}) fields.Fits;
  read = λ words. do
    x ← fields.read words
    Ok (form.says x.0, x.1);
  written = λ value. option_map fields.written (form.said value);
}

-- a line consists of the keyword `word` and then `words`. The result is the value of the line, and
-- the words after its field. The first row of the table with this keyword parses the line. If no
-- row has this keyword, the result is the error P10.
abbrev pub read_by : {A : Type 0} → List (RowOf A) → Word → List Word → Result (A × List Word) PacketFault
read_by [] word words = Err faults.Word
read_by (form ∷ forms) word words = if is_word word form.keyword then form.read words else read_by forms word words

-- the value of a line that consists of the keyword `word` and then `words`, by the table `forms`.
-- If a word follows the field of the line, the result is the error P10.
abbrev pub whole_by : {A : Type 0} → List (RowOf A) → Word → List Word → Result A PacketFault
whole_by forms word words = do
  x ← read_by forms word words
  end ← no_more_words x.1
  Ok x.0

-- the words of the line that means `value`. The first row of the table `forms` that can write a
-- line for `value` writes this line.
abbrev pub written_by : {A : Type 0} → List (RowOf A) → A → List Word
written_by [] value = []
written_by (form ∷ forms) value =
    option_map_or (λ words. form.keyword ∷ words) (form.written value) (written_by forms value)

-- the value that a line means, and the words after its field. The first row of the table `forms`
-- whose keyword is the first word of the line parses the line.
abbrev pub read_line_by : {A : Type 0} → List (RowOf A) → List Word → Result (A × List Word) PacketFault
read_line_by forms [] = Err faults.Word
read_line_by forms (word ∷ words) = read_by forms word words

-- the field that consists of a whole line, which has one of the forms in the table `forms`. The
-- predicate `Fits` gives the values that the field can have.
abbrev pub choice : {A : Type 0} → (A → Type 0) → List (RowOf A) → FieldOf A
choice Fits forms = record
    { Fits = Fits; read = λ words. read_line_by forms words; written = λ value. written_by forms value }

-- the keyword of `form` can be written in a line. If the line for `value` has the field value `x`,
-- then `x` means `value`.
pub record IsForm {A B : Type 0} (form : FormOf A B) : Type 0 where
  pub token : is_keyword form.keyword ≡ true
  pub back : (value : A) (x : B) → form.said value ≡ Some x → form.says x ≡ value

-- the words that the row `form` writes for a value can be written in a line. Let any words `rest`
-- follow the written words. Then the row parses the written words as this value, and returns
-- `rest`.
pub record IsRowBack {A : Type 0} (form : RowOf A) : Type 0 where
  pub keyword : IsToken form.keyword
  pub back : (value : A) (words rest : List Word) → form.Fits value → form.written value ≡ Some words
      → form.read (words ++ rest) ≡ Ok (value, rest)
  pub tokens : (value : A) (words : List Word) → form.Fits value → form.written value ≡ Some words
      → AllByRecursion IsToken words

-- each row of the table `forms` parses the words that it writes for a value, and gets this value
abbrev pub AreBack : {A : Type 0} → List (RowOf A) → Type 0
AreBack [] = Unit {0}
AreBack (form ∷ forms) = IsRowBack form × AreBack forms

-- some row of the table `forms` writes a line for `value`. For the first such row, `value` is a
-- possible value.
abbrev pub SaidBy : {A : Type 0} → List (RowOf A) → A → Type 0
SaidBy [] value = ⊥
SaidBy (form ∷ forms) value = MatchOption (form.written value) (SaidBy forms value) (λ words. form.Fits value)

-- true if some row of the table `forms` writes a line for `value`
abbrev pub is_said_by : {A : Type 0} → List (RowOf A) → A → Bool
is_said_by [] value = false
is_said_by (form ∷ forms) value = is_some (form.written value) || is_said_by forms value

-- true if some row of the table `forms` has the keyword `word`
abbrev pub has_keyword : {A : Type 0} → List (RowOf A) → Word → Bool
has_keyword [] word = false
has_keyword (form ∷ forms) word = is_word word form.keyword || has_keyword forms word

-- true if no two rows of the table `forms` have the same keyword
abbrev pub are_distinct : {A : Type 0} → List (RowOf A) → Bool
are_distinct [] = true
are_distinct (form ∷ forms) = not (has_keyword forms form.keyword) && are_distinct forms
