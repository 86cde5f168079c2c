-- One more byte of a word.
use Rattle.std.proofs.Common.{◌≡◌, ◌≢◌, ℕ, ◌+◌, ◌-◌, ◌*◌, ◌≤◌, List, [], ◌∷◌, ◌++◌, Bool, true, false, Option}
use Rattle.std.proofs.Common.{None, Some, length, min, refl, sym, ap, ◌∙◌, arith, length-append, eqb, ◌&&◌, inl, inr}
use Rattle.std.proofs.lemmas.List.Folds.{list_all-append}
use Rattle.std.proofs.lemmas.List.{append-nil}
use Rattle.std.proofs.lemmas.Bool.{and_parts, ne_eqb, cases_Bool}
use Rattle.std.proofs.lemmas.Bool.Decides.{nat_tests}
use Rattle.std.specs.List.{list_all}
use Rattle.std.specs.Char.{is_ascii_digit, digit_value}
use Rattle.std.specs.Str.Parse.{digits_value_after}
use Rattle.std.specs.Option.{option_map}
use Rattle.dcc_io.specs.declared.digits.Digits.{Digits}
use Rattle.dcc_io.specs.Words.{is_dash, is_mark, before_star, behind_star}
use Rattle.dcc_io.specs.declared.word.RunWord.{RunWord}
use Rattle.dcc_io.specs.SpelledWords.{AreDigits, AreSomeDigits, Spells}

pub digit_value-digit : (byte : ℕ) → 48 ≤ byte → byte ≤ 57 → digit_value byte ≡ byte - 48
digit_value-digit byte low high = grind (arith, nat_tests)

pub is_ascii_digit-digit : (byte : ℕ) → 48 ≤ byte → byte ≤ 57 → is_ascii_digit byte ≡ true
is_ascii_digit-digit byte low high = grind (arith, nat_tests)

pub digits_value_after-push : (n : ℕ) (digits : List ℕ) (byte : ℕ)
    → digits_value_after 10 n (digits ++ byte ∷ []) ≡ digits_value_after 10 n digits * 10 + digit_value byte
digits_value_after-push n [] byte = refl
digits_value_after-push n (digit ∷ digits) byte = digits_value_after-push (n * 10 + digit_value digit) digits byte

and-true : (b : Bool) → (b && true) ≡ b
and-true true = refl
and-true false = refl

all_push : (p : ℕ → Bool) (word : List ℕ) (byte : ℕ) → list_all p (word ++ byte ∷ []) ≡ (list_all p word && p byte)
all_push p word byte = list_all-append p word (byte ∷ []) ∙ ap (λ b. list_all p word && b) (and-true (p byte))

-- one more digit
pub AreDigits-digit : (old new : Digits) (bytes : List ℕ) (byte : ℕ) → 48 ≤ byte → byte ≤ 57
    → new.len ≡ min (old.len + 1) 11 → new.all_digits ≡ old.all_digits
    → new.capped ≡ min (old.capped * 10 + (byte - 48)) 100000000
    → AreDigits old bytes → AreDigits new (bytes ++ byte ∷ [])
AreDigits-digit old new bytes byte low high len same capped digits =
    let value = digits_value_after-push 0 bytes byte in
    let is = digit_value-digit byte low high in
    let before = digits.len in
    record {
      len = simp length-append (omega arith);
      all_digits =
          rw (same, digits.all_digits, all_push is_ascii_digit bytes byte, is_ascii_digit-digit byte low high)
          (sym (and-true _));
      capped = λ all. let before = digits.capped (sym same ∙ all) in omega arith;
    }

-- what follows bytes among which there is no `*`
pub behind_no_star : (word rest : List ℕ) → behind_star word ≡ None
    → (before_star (word ++ rest) ≡ word ++ before_star rest) × (behind_star (word ++ rest) ≡ behind_star rest)
behind_no_star [] rest none = (refl, refl)
behind_no_star (byte ∷ word) rest none = elim (cases_Bool (eqb byte 42)) [
  | inl star ↦ let clash = rw star at none in cc
  | inr other ↦
      let more = behind_no_star word rest (rw other at none) in rw other (ap (λ (l : List ℕ). byte ∷ l) more.0, more.1)
]

pub before_all : (word : List ℕ) → behind_star word ≡ None → before_star word ≡ word
before_all word none = rw (append-nil word) at (behind_no_star word [] none).0

-- bytes that pass a test which `*` does not
pub no_star_in : (test : ℕ → Bool) (word : List ℕ) → test 42 ≡ false → list_all test word ≡ true
    → behind_star word ≡ None
no_star_in test [] other all = refl
no_star_in test (byte ∷ word) other all =
    let parts = and_parts (test byte) (list_all test word) all in
    let apart = ne_eqb byte 42 (λ same. let clash : true ≡ false = sym parts.0 ∙ ap test same ∙ other in cc) in
    rw apart (no_star_in test word other parts.1)

pub count_behind : (word count : List ℕ) (byte : ℕ) → behind_star word ≡ Some count
    → (before_star (word ++ byte ∷ []) ≡ before_star word)
    × (behind_star (word ++ byte ∷ []) ≡ Some (count ++ byte ∷ []))
count_behind [] count byte some = cc
count_behind (first ∷ word) count byte some = elim (cases_Bool (eqb first 42)) [
  | inl star ↦ rw star (refl, ap (option_map (λ (l : List ℕ). l ++ byte ∷ [])) (rw star at some))
  | inr other ↦
      let more = count_behind word count byte (rw other at some)
      in rw other (ap (λ (l : List ℕ). first ∷ l) more.0, more.1)
]

-- what is kept of a count says whether there is a `*`
no_count : (rest : Option (List ℕ)) → AreSomeDigits None rest → rest ≡ None
no_count None digits = refl
no_count (Some bytes) digits = absurd digits

has_count : (count : Digits) (rest : Option (List ℕ)) → AreSomeDigits (Some count) rest
    → (bytes : List ℕ) × (rest ≡ Some bytes) × AreDigits count bytes
has_count count None digits = absurd digits
has_count count (Some bytes) digits = (bytes, refl, digits)

module _ {old : RunWord} {word : List ℕ} (new : RunWord) (byte : ℕ) (spells : Spells old word)
    (dashes : new.all_dashes ≡ (old.all_dashes && eqb byte 45)) where
  all_dashes : new.all_dashes ≡ list_all is_dash (word ++ byte ∷ [])
  all_dashes = rw (dashes, spells.all_dashes) (sym (all_push is_dash word byte))

  -- one more byte of the count
  pub Spells-count : {count more : Digits} → old.count ≡ Some count
      → ((bytes : List ℕ) → AreDigits count bytes → AreDigits more (bytes ++ byte ∷ []))
      → new.duration ≡ old.duration → new.count ≡ Some more → Spells new (word ++ byte ∷ [])
  Spells-count has pushes same counts =
      let had = has_count _ (behind_star word) (rw has at spells.count) in
      let behind = count_behind word had.0 byte had.1 in
      record {
        duration = rw (behind.0, same) spells.duration;
        count = rw (behind.1, counts) (pushes had.0 had.2);
        all_dashes = all_dashes;
      }

  module _ (none : old.count ≡ None) where
    no_star : behind_star word ≡ None
    no_star = no_count (behind_star word) (rw none at spells.count)

    duration : AreDigits old.duration word
    duration = rw (before_all word no_star) at spells.duration

    -- the first `*`
    pub Spells-star : {count : Digits} → byte ≡ 42 → AreDigits count [] → new.duration ≡ old.duration
        → new.count ≡ Some count → Spells new (word ++ byte ∷ [])
    Spells-star star digits same counts =
        let behind = behind_no_star word (42 ∷ []) no_star in
        record {
          duration = rw (star, behind.0, append-nil word, same) duration;
          count = rw (star, behind.1, counts) digits;
          all_dashes = all_dashes;
        }

    -- one more byte of the duration
    pub Spells-byte : byte ≢ 42
        → ((bytes : List ℕ) → AreDigits old.duration bytes → AreDigits new.duration (bytes ++ byte ∷ []))
        → new.count ≡ old.count → Spells new (word ++ byte ∷ [])
    Spells-byte other pushes same =
        let behind = rw (ne_eqb byte 42 other) at (behind_no_star word (byte ∷ []) no_star) in
        record {
          duration = rw behind.0 (pushes word duration);
          count = rw (behind.1, same, none) tt;
          all_dashes = all_dashes;
        }

-- three dashes
pub mark_of : (so_far : RunWord) (word : List ℕ) (len : ℕ) → so_far.all_dashes ≡ true
    → ((bytes : List ℕ) → AreDigits so_far.duration bytes → len ≡ min (length bytes) 11) → Spells so_far word
    → eqb len 3 ≡ is_mark word
mark_of so_far word len dashes len_is spells =
    let all : list_all is_dash word ≡ true = sym spells.all_dashes ∙ dashes in
    let count : len ≡ min (length word) 11 =
    rw (before_all word (no_star_in is_dash word refl all)) at (len_is (before_star word) spells.duration) in
    let three : eqb len 3 ≡ eqb (length word) 3 = grind (arith, nat_tests) in
    rw (all, and-true (eqb (length word) 3)) three
