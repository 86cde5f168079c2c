-- Half-bits in the range of the ones or in the range of the zeros of a list.
use Rattle.std.proofs.Common.{◌≡◌, ◌⊎◌, inl, inr, ℕ, ◌+◌, ◌<◌, ◌≤◌, min, max, Bool, true, false}
use Rattle.std.proofs.Common.{List, [], ◌∷◌, ◌++◌, length, map, subst, sum}
use Rattle.std.proofs.Common.{refl, sym, ap, ◌∙◌, arith, length-append, append-nil}
use Rattle.std.specs.List.{filter, fold}
use Rattle.std.proofs.lemmas.Bool.{cases_Bool}
use Rattle.std.proofs.lemmas.Bool.Decides.{nat_tests}
use Rattle.std.proofs.lemmas.List.{map-id}
use Rattle.std.proofs.lemmas.List.Elements.{filter-append}
use Rattle.std.proofs.lemmas.List.Sums.{fold-append, sum_by-append, sum_by-cons}
use Rattle.dcc_timing.specs.declared.classes.Classes.{Classes}
use Rattle.dcc_timing.specs.declared.covered.Span.{Span}
use Rattle.dcc_timing.specs.declared.tally.Tally.{Tally}
use Rattle.dcc_timing.specs.Classes.{AreClasses, is_half_of_one, is_half_of_zero, is_below, is_between, is_above}
use Rattle.dcc_timing.specs.Inner.Ranges.{AllBetween, is_in}
use Rattle.dcc_timing.specs.Numbers.{least, most}
use Rattle.dcc_timing.specs.Tallies.{IsTally}

-- numbers in the range of a list change only its count and its sum

fold_min_in : (low high : ℕ) (more : List ℕ) → AllBetween low high more → fold min low more ≡ low
unfolding AllBetween
fold_min_in low high [] all = refl
fold_min_in low high (number ∷ more) all =
    let here : min low number ≡ low = omega (arith, all.0) in
    ap (λ m. fold min m more) here ∙ fold_min_in low high more all.2

fold_max_in : (low high : ℕ) (more : List ℕ) → AllBetween low high more → fold max high more ≡ high
unfolding AllBetween
fold_max_in low high [] all = refl
fold_max_in low high (number ∷ more) all =
    let here : max high number ≡ high = omega (arith, all.1) in
    ap (λ m. fold max m more) here ∙ fold_max_in low high more all.2

pub tally_covered : (old new : Tally) (numbers more : List ℕ) → 0 < old.count → IsTally old numbers
    → AllBetween old.least old.most more → new.count ≡ old.count + length more → new.sum ≡ old.sum + sum more
    → new.least ≡ old.least → new.most ≡ old.most → IsTally new (numbers ++ more)
unfolding least most
tally_covered old new [] more some is all count total low high = absurd (omega (arith, some, is.count))
tally_covered old new (first ∷ numbers) more some is all count total low high = record {
  count = omega (arith, count, is.count, length-append (first ∷ numbers) more);
  total = omega (arith, total, is.total, sum_by-append (λ x. x) (first ∷ numbers) more);
  lowest = low ∙ sym (fold-append min first numbers more ∙ ap (λ m. fold min m more) (sym is.lowest)
      ∙ fold_min_in old.least old.most more all);
  highest = high ∙ sym (fold-append max first numbers more ∙ ap (λ m. fold max m more) (sym is.highest)
      ∙ fold_max_in old.least old.most more all);
}

-- the range of numbers with a property is in the range of the property

pub all_between_map : {X : Type 0} (p : X → Bool) (f : X → ℕ) (low high : ℕ)
    → ((x : X) → p x ≡ true → (low ≤ f x) × (f x ≤ high)) → (list : List X)
    → AllBetween low high (map f (filter p list))
unfolding AllBetween
all_between_map p f low high limits [] = tt
all_between_map p f low high limits (x ∷ list) = elim (cases_Bool (p x)) [
  | inl holds ↦ rw holds ((limits x holds).0, (limits x holds).1, all_between_map p f low high limits list)
  | inr fails ↦ rw fails (all_between_map p f low high limits list)
]

module _ (p : ℕ → Bool) (low high : ℕ) (limits : (x : ℕ) → p x ≡ true → (low ≤ x) × (x ≤ high)) where
  pub all_between : (numbers : List ℕ) → AllBetween low high (filter p numbers)
  all_between numbers =
      subst (AllBetween low high) (map-id (filter p numbers)) (all_between_map p (λ x. x) low high limits numbers)

  least_above : (first : ℕ) (numbers : List ℕ) → low ≤ first → AllBetween low high numbers
      → low ≤ fold min first numbers
  unfolding AllBetween
  least_above first [] above all = above
  least_above first (x ∷ numbers) above all = least_above (min first x) numbers (omega (arith, above, all.0)) all.2

  least_below : (first : ℕ) (numbers : List ℕ) → first ≤ high → fold min first numbers ≤ high
  least_below first [] below = below
  least_below first (x ∷ numbers) below = least_below (min first x) numbers (omega (arith, below))

  most_below : (first : ℕ) (numbers : List ℕ) → first ≤ high → AllBetween low high numbers
      → fold max first numbers ≤ high
  unfolding AllBetween
  most_below first [] below all = below
  most_below first (x ∷ numbers) below all = most_below (max first x) numbers (omega (arith, below, all.1)) all.2

  within_list : (tally : Tally) (numbers : List ℕ) → AllBetween low high numbers → IsTally tally numbers
      → 0 < tally.count → (low ≤ tally.least) × (tally.least ≤ high) × (tally.most ≤ high)
  unfolding AllBetween least most
  within_list tally [] all is some = absurd (omega (arith, some, is.count))
  within_list tally (first ∷ numbers) all is some = (
    omega (arith, is.lowest, least_above first numbers all.0 all.2),
    omega (arith, is.lowest, least_below first numbers all.1),
    omega (arith, is.highest, most_below first numbers all.1 all.2),
  )

  pub within : (tally : Tally) (numbers : List ℕ) → IsTally tally (filter p numbers) → 0 < tally.count
      → (low ≤ tally.least) × (tally.least ≤ high) × (tally.most ≤ high)
  within tally numbers is some = within_list tally (filter p numbers) (all_between numbers) is some

-- each number is in one of two ranges

unfoldable pub InEither : {X : Type 0} → (X → Bool) → (X → Bool) → List X → Type 0
InEither p q [] = Unit {0}
InEither p q (x ∷ numbers) =
    (((p x ≡ true) × (q x ≡ false)) ⊎ ((p x ≡ false) × (q x ≡ true))) × InEither p q numbers

module _ {X : Type 0} (p q : X → Bool) (apart : (x : X) → p x ≡ true → q x ≡ false) where
  few_filtered : (numbers : List X) → length (filter p numbers) + length (filter q numbers) ≤ length numbers
  few_filtered [] = omega arith
  few_filtered (x ∷ numbers) = elim (cases_Bool (p x)) [
    | inl holds ↦ rw (holds, apart x holds) (omega (arith, few_filtered numbers))
    | inr fails ↦ elim (cases_Bool (q x)) [
      | inl here ↦ rw (fails, here) (omega (arith, few_filtered numbers))
      | inr none ↦ rw (fails, none) (omega (arith, few_filtered numbers))
    ]
  ]

  pub in_either : (numbers : List X) → length (filter p numbers) + length (filter q numbers) ≡ length numbers
      → InEither p q numbers
  unfolding InEither
  in_either [] all = tt
  in_either (x ∷ numbers) all = elim (cases_Bool (p x)) [
    | inl holds ↦
        let other = apart x holds in
        (inl (holds, other), in_either numbers (omega (arith, rw (holds, other) at all)))
    | inr fails ↦ elim (cases_Bool (q x)) [
      | inl here ↦ (inr (fails, here), in_either numbers (omega (arith, rw (fails, here) at all)))
      | inr none ↦ absurd (omega (arith, rw (fails, none) at all, few_filtered numbers))
    ]
  ]

-- a class that contains the first range and no number of the second
module _ {X : Type 0} (p q : X → Bool) where
  pub same_filter : (r : X → Bool) → ((x : X) → p x ≡ true → r x ≡ true) → ((x : X) → q x ≡ true → r x ≡ false)
      → (numbers : List X) → InEither p q numbers → filter r numbers ≡ filter p numbers
  unfolding InEither
  same_filter r has lacks [] each = refl
  same_filter r has lacks (x ∷ numbers) each = elim each.0 [
    | inl here ↦ rw (has x here.0, here.0) (ap (λ l. x ∷ l) (same_filter r has lacks numbers each.1))
    | inr there ↦ rw (lacks x there.1, there.0) (same_filter r has lacks numbers each.1)
  ]

  pub other_filter : (r : X → Bool) → ((x : X) → p x ≡ true → r x ≡ false) → ((x : X) → q x ≡ true → r x ≡ true)
      → (numbers : List X) → InEither p q numbers → filter r numbers ≡ filter q numbers
  unfolding InEither
  other_filter r lacks has [] each = refl
  other_filter r lacks has (x ∷ numbers) each = elim each.0 [
    | inl here ↦ rw (lacks x here.0, here.1) (other_filter r lacks has numbers each.1)
    | inr there ↦ rw (has x there.1, there.1) (ap (λ l. x ∷ l) (other_filter r lacks has numbers each.1))
  ]

  no_filter : (r : X → Bool) → ((x : X) → p x ≡ true → r x ≡ false) → ((x : X) → q x ≡ true → r x ≡ false)
      → (numbers : List X) → InEither p q numbers → filter r numbers ≡ []
  unfolding InEither
  no_filter r lacks none [] each = refl
  no_filter r lacks none (x ∷ numbers) each = elim each.0 [
    | inl here ↦ rw (lacks x here.0) (no_filter r lacks none numbers each.1)
    | inr there ↦ rw (none x there.1) (no_filter r lacks none numbers each.1)
  ]

module _ (p q : ℕ → Bool) where
  both_sums : (numbers : List ℕ) → InEither p q numbers → sum numbers ≡ sum (filter p numbers) + sum (filter q numbers)
  unfolding InEither
  both_sums [] each = refl
  both_sums (x ∷ numbers) each = elim each.0 [
    | inl here ↦
        rw (here.0, here.1) (omega (
          arith,
          both_sums numbers each.1,
          sum_by-cons (λ n. n) x numbers,
          sum_by-cons (λ n. n) x (filter p numbers),
        ))
    | inr there ↦
        rw (there.0, there.1) (omega (
          arith,
          both_sums numbers each.1,
          sum_by-cons (λ n. n) x numbers,
          sum_by-cons (λ n. n) x (filter q numbers),
        ))
  ]

-- the tally of a class, for numbers at the end of the list
tally_grows : (r : ℕ → Bool) (tally : Tally) (numbers more others : List ℕ) → filter r more ≡ others
    → IsTally tally (filter r numbers ++ others) → IsTally tally (filter r (numbers ++ more))
tally_grows r tally numbers more others same is = rw (filter-append r numbers more, same) is

module _ (old : Classes) (durations halves : List ℕ) (one zero : Span) (are : AreClasses old durations)
    (some_ones : 0 < old.ones.count) (some_zeros : 0 < old.zeros.count)
    (least_one : one.least ≡ min old.ones.least 65535) (most_one : one.most ≡ min old.ones.most 65535)
    (least_zero : zero.least ≡ min old.zeros.least 65535) (most_zero : zero.most ≡ min old.zeros.most 65535)
    (all : length (filter (is_in one) halves) + length (filter (is_in zero) halves) ≡ length halves) where
  ones_within : (52 ≤ old.ones.least) × (old.ones.least ≤ 64) × (old.ones.most ≤ 64)
  ones_within = within is_half_of_one 52 64 (λ x holds. grind (arith, nat_tests)) old.ones durations are.ones some_ones

  zeros_within : (90 ≤ old.zeros.least) × (old.zeros.least ≤ 10000) × (old.zeros.most ≤ 10000)
  zeros_within =
      within is_half_of_zero 90 10000 (λ x holds. grind (arith, nat_tests)) old.zeros durations are.zeros some_zeros

  one_limits : (x : ℕ) → is_in one x ≡ true → (old.ones.least ≤ x) × (x ≤ old.ones.most)
  one_limits x holds = let within = ones_within in grind (arith, nat_tests)

  zero_limits : (x : ℕ) → is_in zero x ≡ true → (old.zeros.least ≤ x) × (x ≤ old.zeros.most)
  zero_limits x holds = let within = zeros_within in grind (arith, nat_tests)

  one_between : (x : ℕ) → is_in one x ≡ true → (52 ≤ x) × (x ≤ 64)
  one_between x holds = omega (arith, one_limits x holds, ones_within)

  zero_between : (x : ℕ) → is_in zero x ≡ true → (90 ≤ x) × (x ≤ 10000)
  zero_between x holds = omega (arith, zero_limits x holds, zeros_within)

  each_in : InEither (is_in one) (is_in zero) halves
  each_in =
      in_either (is_in one) (is_in zero)
      (λ x holds. let below = one_between x holds in let above = zeros_within in grind (arith, nat_tests)) halves all

  pub covered_sum : sum halves ≡ sum (filter (is_in one) halves) + sum (filter (is_in zero) halves)
  covered_sum = both_sums (is_in one) (is_in zero) halves each_in

  pub ones_between : AllBetween old.ones.least old.ones.most (filter (is_in one) halves)
  ones_between = all_between (is_in one) old.ones.least old.ones.most one_limits halves

  pub zeros_between : AllBetween old.zeros.least old.zeros.most (filter (is_in zero) halves)
  zeros_between = all_between (is_in zero) old.zeros.least old.zeros.most zero_limits halves

  pub below_stays : IsTally old.below (filter is_below (durations ++ halves))
  below_stays =
      tally_grows is_below old.below durations halves []
      (no_filter (is_in one) (is_in zero) is_below
      (λ x holds. let within = one_between x holds in grind (arith, nat_tests))
      (λ x holds. let within = zero_between x holds in grind (arith, nat_tests)) halves each_in)
      (rw append-nil are.below)

  pub between_stays : IsTally old.between (filter is_between (durations ++ halves))
  between_stays =
      tally_grows is_between old.between durations halves []
      (no_filter (is_in one) (is_in zero) is_between
      (λ x holds. let within = one_between x holds in grind (arith, nat_tests))
      (λ x holds. let within = zero_between x holds in grind (arith, nat_tests)) halves each_in)
      (rw append-nil are.between)

  pub above_stays : IsTally old.above (filter is_above (durations ++ halves))
  above_stays =
      tally_grows is_above old.above durations halves []
      (no_filter (is_in one) (is_in zero) is_above
      (λ x holds. let within = one_between x holds in grind (arith, nat_tests))
      (λ x holds. let within = zero_between x holds in grind (arith, nat_tests)) halves each_in)
      (rw append-nil are.above)

  pub ones_grow : (tally : Tally) → IsTally tally (filter is_half_of_one durations ++ filter (is_in one) halves)
      → IsTally tally (filter is_half_of_one (durations ++ halves))
  ones_grow tally is =
      tally_grows is_half_of_one tally durations halves (filter (is_in one) halves)
      (same_filter (is_in one) (is_in zero) is_half_of_one
      (λ x holds. let within = one_between x holds in grind (arith, nat_tests))
      (λ x holds. let within = zero_between x holds in grind (arith, nat_tests)) halves each_in)
      is

  pub zeros_grow : (tally : Tally) → IsTally tally (filter is_half_of_zero durations ++ filter (is_in zero) halves)
      → IsTally tally (filter is_half_of_zero (durations ++ halves))
  zeros_grow tally is =
      tally_grows is_half_of_zero tally durations halves (filter (is_in zero) halves)
      (other_filter (is_in one) (is_in zero) is_half_of_zero
      (λ x holds. let within = one_between x holds in grind (arith, nat_tests))
      (λ x holds. let within = zero_between x holds in grind (arith, nat_tests)) halves each_in)
      is
