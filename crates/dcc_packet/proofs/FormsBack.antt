-- What is written in one of several forms is read again.
use Rattle.std.proofs.Common.{◌≡◌, Bool, true, false, not, inl, inr, List, [], ◌∷◌, ◌++◌, Option, Some, None, Ok, refl}
use Rattle.std.proofs.Common.{sym, ap, ◌∙◌}
use Rattle.std.specs.Prelude.{MatchOption}
use Rattle.std.specs.Option.{option_map}
use Rattle.std.specs.List.{AllByRecursion}
use Rattle.std.proofs.lemmas.Bool.{cases_Bool, and_parts}
use Rattle.std.proofs.lemmas.List.{append-nil}
use Rattle.std.proofs.lemmas.Slice.Eq.{bytes_eq-Decides}
use Rattle.dcc_packet.specs.Words.{Word, is_word}
use Rattle.dcc_packet.specs.Fields.{FieldOf, IsToken, IsReadBack}
use Rattle.dcc_packet.specs.Forms.{FormOf, RowOf, row, read_by, whole_by, written_by, choice, IsForm, IsRowBack}
use Rattle.dcc_packet.specs.Forms.{AreBack}
use Rattle.dcc_packet.specs.Forms.{SaidBy, are_distinct, has_keyword}
use Rattle.dcc_packet.proofs.Tokens.{keyword_token}

-- a form is read back
module _ {A B : Type 0} (fields : FieldOf B) (form : FormOf A B) (h : IsReadBack fields) (k : IsForm form) where
  row_reads : (x : A) (ws rest : List Word) (said : Option B) → form.said x ≡ said
      → MatchOption said (Unit {0}) fields.Fits
      → option_map fields.written said ≡ Some ws → (row fields form).read (ws ++ rest) ≡ Ok (x, rest)
  row_reads x ws rest None e fits w = absurd cc
  row_reads x ws rest (Some y) e fits w =
      let is : fields.written y ≡ ws = cc in
      rw (sym is, h.back y rest fits, k.back x y e) refl

  row_tokens : (ws : List Word) (said : Option B) → MatchOption said (Unit {0}) fields.Fits
      → option_map fields.written said ≡ Some ws → AllByRecursion IsToken ws
  row_tokens ws None fits w = absurd cc
  row_tokens ws (Some y) fits w =
      let is : fields.written y ≡ ws = cc in
      rw (sym is) (h.tokens y fits)

  pub row_back : IsRowBack (row fields form)
  row_back = record {
    keyword = keyword_token form.keyword k.token;
    back = λ x ws rest fits w. row_reads x ws rest (form.said x) refl fits w;
    tokens = λ x ws fits w. row_tokens ws (form.said x) fits w;
  }

-- what is written for a value, and that it is read by the forms
pub record Found {A : Type 0} (forms : List (RowOf A)) (x : A) : Type 0 where
  pub keyword : Word
  pub words : List Word
  pub is : written_by forms x ≡ keyword ∷ words
  pub reads : (rest : List Word) → read_by forms keyword (words ++ rest) ≡ Ok (x, rest)
  pub has : has_keyword forms keyword ≡ true
  pub tokens : AllByRecursion IsToken (keyword ∷ words)

-- a keyword that a later form has is not that of this one
pub other_word : (word keyword : Word) (has : Bool) → not has ≡ true → (word ≡ keyword → has ≡ true)
    → is_word word keyword ≡ false
other_word word keyword has h k =
    elim (cases_Bool (is_word word keyword)) [
      | inl e ↦ let e2 = k ((bytes_eq-Decides word keyword).0 e) in absurd cc
      | inr e ↦ e
    ]

module _ {A : Type 0} (form : RowOf A) (forms : List (RowOf A)) (x : A) where
  found_here : (ws : List Word) → IsRowBack form → form.Fits x → form.written x ≡ Some ws → Found (form ∷ forms) x
  found_here ws h fits w =
      let same : is_word form.keyword form.keyword ≡ true = (bytes_eq-Decides form.keyword form.keyword).1 refl in
      record {
        keyword = form.keyword;
        words = ws;
        is = rw w refl;
        reads = λ rest. rw (same, h.back x ws rest fits w) refl;
        has = rw same refl;
        tokens = (h.keyword, h.tokens x ws fits w);
      }

  found_behind : form.written x ≡ None → not (has_keyword forms form.keyword) ≡ true → Found forms x
      → Found (form ∷ forms) x
  found_behind w d f =
      let differ = other_word f.keyword form.keyword (has_keyword forms form.keyword) d (λ e. rw (sym e) f.has) in
      record {
        keyword = f.keyword;
        words = f.words;
        is = rw w f.is;
        reads = λ rest. rw differ (f.reads rest);
        has = rw differ f.has;
        tokens = f.tokens;
      }

  found_by : (written : Option (List Word)) → form.written x ≡ written → IsRowBack form
      → not (has_keyword forms form.keyword) ≡ true → (SaidBy forms x → Found forms x)
      → MatchOption written (SaidBy forms x) (λ ws. form.Fits x) → Found (form ∷ forms) x
  found_by None w h d f s = found_behind w d (f s)
  found_by (Some ws) w h d f s = found_here ws h s w

pub found : {A : Type 0} (forms : List (RowOf A)) (x : A) → AreBack forms → are_distinct forms ≡ true → SaidBy forms x
    → Found forms x
found [] x h d s = absurd s
found (form ∷ forms) x h d s =
    let parts = and_parts (not (has_keyword forms form.keyword)) (are_distinct forms) d in
    found_by form forms x (form.written x) refl h.0 parts.0 (found forms x h.1 parts.1) s

-- a line in one of several forms
pub whole_by_back : {A : Type 0} (forms : List (RowOf A)) (x : A) (f : Found forms x)
    → whole_by forms f.keyword f.words ≡ Ok x
whole_by_back forms x f =
    let read : read_by forms f.keyword f.words ≡ Ok (x, []) =
    ap (read_by forms f.keyword) (sym (append-nil f.words)) ∙ f.reads [] in
    rw read refl

-- a field of several forms is read back
pub choice_back : {A : Type 0} (Fits : A → Type 0) (forms : List (RowOf A)) → AreBack forms → are_distinct forms ≡ true
    → ((x : A) → Fits x → SaidBy forms x) → IsReadBack (choice Fits forms)
choice_back Fits forms h d says =
    record {
      back = λ x rest fits. let f = found forms x h d (says x fits) in rw f.is (f.reads rest);
      tokens = λ x fits. let f = found forms x h d (says x fits) in rw f.is f.tokens;
    }
