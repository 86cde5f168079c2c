-- The names of the functions that are on.
use Rattle.std.proofs.Common.{◌≡◌, ℕ, ◌+◌, ◌-◌, zero, suc, add-one, Bool, true, false, List, [], ◌∷◌, ◌++◌}
use Rattle.std.proofs.Common.{refl, sym, ap, ◌∙◌, append_assoc, append-nil, codes, arith, if◌then◌else◌}
use Rattle.std.specs.List.{filter, flat_map, join_by, range_with_len}
use Rattle.std.proofs.lemmas.List.Concat.{flat_map-append}
use Rattle.std.proofs.lemmas.List.Elements.{filter-append}
use Rattle.dcc_packet.specs.Bits.{is_one}
use Rattle.dcc_plain.specs.PlainWords.{function_name, functions_on, on_words}

abbrev pub has_names : List ℕ → Bool
has_names [] = false
has_names (n ∷ more) = true

abbrev pub names : List ℕ → List ℕ
names numbers = join_by function_name (codes ", ") numbers

range_suc : (a n : ℕ) → range_with_len a (suc n) ≡ range_with_len a n ++ (a + n) ∷ []
range_suc a zero = ap (λ (k : ℕ). k ∷ []) (omega arith)
range_suc a (suc n) =
    let k : a + 1 + n ≡ a + suc n = omega arith in
    ap (λ (l : List ℕ). a ∷ l) (range_suc (a + 1) n ∙ ap (λ (k : ℕ). range_with_len (a + 1) n ++ k ∷ []) k)

range_more : (a n : ℕ) → range_with_len a (n + 1) ≡ range_with_len a n ++ (a + n) ∷ []
range_more a n = rw add-one (range_suc a n)

names_more : (numbers : List ℕ) (n : ℕ)
    → names numbers ++ ((if has_names numbers then codes ", " else []) ++ function_name n) ≡ names (numbers ++ n ∷ [])
names_more [] n = sym (append-nil (function_name n))
names_more (first ∷ numbers) n =
    append_assoc (function_name first) (flat_map (λ y. codes ", " ++ function_name y) numbers)
    (codes ", " ++ function_name n)
    ∙ ap (λ l. function_name first ++ l) (ap (λ l. flat_map (λ y. codes ", " ++ function_name y) numbers ++ l)
    (sym (append-nil (codes ", " ++ function_name n)))
    ∙ sym (flat_map-append (λ y. codes ", " ++ function_name y) numbers (n ∷ [])))

has_names_more : (numbers : List ℕ) (n : ℕ) → has_names (numbers ++ n ∷ []) ≡ true
has_names_more [] n = refl
has_names_more (first ∷ numbers) n = refl

-- those that are on among the first `passed` functions from number `first` on
abbrev pub on_among : ℕ → ℕ → ℕ → List ℕ
on_among bits first passed = functions_on first passed bits

is_on_at : (bits first passed : ℕ) → is_one bits (first + passed - first) ≡ is_one bits passed
is_on_at bits first passed = ap (is_one bits) (omega arith)

on_among_more : (bits first passed : ℕ) (is : Bool) → is ≡ is_one bits passed
    → on_among bits first (passed + 1) ≡ on_among bits first passed ++ (if is then (first + passed) ∷ [] else [])
on_among_more bits first passed is same =
    ap (filter (λ n. is_one bits (n - first))) (range_more first passed)
    ∙ filter-append (λ n. is_one bits (n - first)) (range_with_len first passed) ((first + passed) ∷ [])
    ∙ ap (λ (on : Bool). on_among bits first passed ++ (if on then (first + passed) ∷ [] else []))
    (is_on_at bits first passed ∙ sym same)

-- the names of those that are on among the first functions were appended
pub record Named (bits first passed : ℕ) (old new : List ℕ) (has_name : Bool) : Type 0 where
  pub text : new ≡ old ++ names (on_among bits first passed)
  pub has : has_name ≡ has_names (on_among bits first passed)

pub Named-none : (bits first : ℕ) (old : List ℕ) → Named bits first 0 old old false
Named-none bits first old = record { text = sym (append-nil old); has = refl }

module _ {bits first passed : ℕ} {old mid : List ℕ} {has_name : Bool}
    (named : Named bits first passed old mid has_name) where
  pub Named-off : false ≡ is_one bits passed → Named bits first (passed + 1) old mid has_name
  Named-off off =
      let same = on_among_more bits first passed false off ∙ append-nil (on_among bits first passed) in
      record {
        text = named.text ∙ ap (λ (on : List ℕ). old ++ names on) (sym same);
        has = named.has ∙ ap has_names (sym same);
      }

  pub Named-on : (new : List ℕ) → true ≡ is_one bits passed
      → new ≡ mid ++ ((if has_name then codes ", " else []) ++ function_name (first + passed))
      → Named bits first (passed + 1) old new true
  Named-on new on wrote =
      let before = on_among bits first passed in
      let same = on_among_more bits first passed true on in record {
        text =
            wrote
            ∙ ap (λ (text : List ℕ). text ++ ((if has_name then codes ", " else []) ++ function_name (first + passed)))
            named.text
            ∙ ap (λ (has : Bool). (old ++ names before)
            ++ ((if has then codes ", " else []) ++ function_name (first + passed))) named.has
            ∙ append_assoc old (names before)
            ((if has_names before then codes ", " else []) ++ function_name (first + passed))
            ∙ ap (λ (text : List ℕ). old ++ text) (names_more before (first + passed))
            ∙ ap (λ (on : List ℕ). old ++ names on) (sym same);
        has = sym (has_names_more before (first + passed)) ∙ ap has_names (sym same);
      }

words_of : (on : List ℕ) → names on ++ (if has_names on then codes " on, the rest of " else []) ≡ on_words on
words_of [] = refl
words_of (n ∷ more) = refl

-- all functions were passed
pub Named-all : {bits first passed count : ℕ} {old mid : List ℕ} {has_name : Bool} (new : List ℕ)
    → Named bits first passed old mid has_name → passed ≡ count
    → new ≡ mid ++ (if has_name then codes " on, the rest of " else [])
    → new ≡ old ++ on_words (functions_on first count bits)
Named-all {bits} {first} {passed} {count} {old} {mid} {has_name} new named is_count wrote =
    let on = on_among bits first passed in
    let all : on ≡ functions_on first count bits = ap (λ (n : ℕ). functions_on first n bits) is_count in
    wrote ∙ ap (λ (text : List ℕ). text ++ (if has_name then codes " on, the rest of " else [])) named.text
    ∙ ap (λ (has : Bool). (old ++ names on) ++ (if has then codes " on, the rest of " else [])) named.has
    ∙ append_assoc old (names on) (if has_names on then codes " on, the rest of " else [])
    ∙ ap (λ (text : List ℕ). old ++ text) (words_of on ∙ ap on_words all)
