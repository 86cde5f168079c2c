-- Bits in the range of the differences or in the range of the durations of a list.
use Rattle.std.proofs.Common.{◌≡◌, inl, inr, ℕ, suc, ◌+◌, ◌*◌, ◌/◌, ◌<◌, ◌≤◌, min, Bool, true, false, List, []}
use Rattle.std.proofs.Common.{◌∷◌, ◌++◌, length, map, sum, take, get_or, if◌then◌else◌}
use Rattle.std.proofs.Common.{refl, sym, ap, ◌∙◌, arith, append-nil, length-append}
use Rattle.std.specs.List.{filter}
use Rattle.std.proofs.lemmas.Bool.{cases_Bool}
use Rattle.std.proofs.lemmas.Bool.Decides.{nat_tests}
use Rattle.std.proofs.lemmas.List.{length-map, map-append, take_more}
use Rattle.std.proofs.lemmas.List.Elements.{filter-append}
use Rattle.std.proofs.lemmas.List.Sums.{sum_by-append, sum_by-cons}
use Rattle.dcc_timing.specs.declared.bits.Bits.{Bits}
use Rattle.dcc_timing.specs.declared.covered.Span.{Span}
use Rattle.dcc_timing.specs.declared.tally.Tally.{Tally}
use Rattle.dcc_timing.specs.Inner.Ranges.{AllBetween, is_one_in, is_zero_in}
use Rattle.dcc_timing.specs.PacketBits.{bit_duration, difference, is_one_pair, is_zero_pair, pairs}
use Rattle.dcc_timing.specs.Tallies.{IsTally}
use Rattle.dcc_timing.proofs.CoveredLemmas.{InEither, all_between_map, in_either, other_filter, same_filter}

-- the bits that half-bits form

pub length_pairs : (halves : List ℕ) → length (pairs halves) ≡ length halves / 2
unfolding pairs
length_pairs [] = refl
length_pairs (half ∷ []) = refl
length_pairs (first ∷ second ∷ halves) = omega (arith, length_pairs halves)

pub get_pair : (halves : List ℕ) (i : ℕ) → i < length halves / 2
    → get_or (pairs halves) i (0, 0) ≡ (get_or halves (2 * i) 0, get_or halves (2 * i + 1) 0)
unfolding pairs
get_pair [] i inside = absurd (omega (arith, inside))
get_pair (half ∷ []) i inside = absurd (omega (arith, inside))
get_pair (first ∷ second ∷ halves) ℕ.zero inside = refl
get_pair (first ∷ second ∷ halves) (suc i) inside =
    let place : 2 * suc i ≡ suc (suc (2 * i)) = omega arith in
    let next : 2 * suc i + 1 ≡ suc (suc (2 * i + 1)) = omega arith in
    get_pair halves i (omega (arith, inside))
    ∙ ap (λ k. (get_or (first ∷ second ∷ halves) k 0, get_or halves (2 * i + 1) 0)) (sym place)
    ∙ ap (λ k. (get_or (first ∷ second ∷ halves) (2 * suc i) 0, get_or (first ∷ second ∷ halves) k 0)) (sym next)

-- the bits with a property, after one more bit

module _ (p : ℕ × ℕ → Bool) (halves : List ℕ) (i : ℕ) (inside : i < length halves / 2) where
  abbrev bit : ℕ × ℕ
  bit = (get_or halves (2 * i) 0, get_or halves (2 * i + 1) 0)

  abbrev filtered : ℕ → List (ℕ × ℕ)
  filtered n = filter p (take n (pairs halves))

  in_bits : i < length (pairs halves)
  in_bits = omega (arith, inside, length_pairs halves)

  filtered_more : (holds : Bool) → holds ≡ p bit → filtered (i + 1) ≡ filtered i ++ (if holds then bit ∷ [] else [])
  filtered_more holds is =
      ap (filter p) (take_more (pairs halves) i (0, 0) in_bits)
      ∙ filter-append p (take i (pairs halves)) (get_or (pairs halves) i (0, 0) ∷ [])
      ∙ ap (λ b. filtered i ++ filter p (b ∷ [])) (get_pair halves i inside)
      ∙ ap (λ h. filtered i ++ (if h then bit ∷ [] else [])) (sym is)

  pub count_more : (holds : Bool) (old new : ℕ) → holds ≡ p bit → new ≡ (if holds then old + 1 else old)
      → old ≡ length (filtered i) → new ≡ length (filtered (i + 1))
  count_more true old new is adds before =
      omega (arith, adds, before, ap length (filtered_more true is), length-append (filtered i) (bit ∷ []))
  count_more false old new is adds before =
      omega (arith, adds, before, ap length (filtered_more false is ∙ append-nil (filtered i)))

  pub total_more : (f : ℕ × ℕ → ℕ) (holds : Bool) (old new more : ℕ) → holds ≡ p bit → more ≡ f bit
      → new ≡ (if holds then old + more else old) → old ≡ sum (map f (filtered i))
      → new ≡ sum (map f (filtered (i + 1)))
  total_more f true old new more is value adds before =
      let grows : sum (map f (filtered (i + 1))) ≡ sum (map f (filtered i)) + sum (f bit ∷ []) =
      ap (λ l. sum (map f l)) (filtered_more true is) ∙ ap sum (map-append f (filtered i) (bit ∷ []))
      ∙ sum_by-append (λ n. n) (map f (filtered i)) (f bit ∷ []) in
      omega (arith, adds, before, value, grows, sum_by-cons (λ n. n) (f bit) [])
  total_more f false old new more is value adds before =
      adds ∙ before ∙ ap (λ l. sum (map f l)) (sym (filtered_more false is ∙ append-nil (filtered i)))

pub few_more : (holds : Bool) (old new i : ℕ) → new ≡ (if holds then old + 1 else old) → old ≤ i → new ≤ i + 1
few_more true old new i adds few = omega (arith, adds, few)
few_more false old new i adds few = omega (arith, adds, few)

pub small_more : (holds : Bool) (old new total all more : ℕ) → new ≡ (if holds then old + 1 else old)
    → all ≡ (if holds then total + more else total) → more ≤ 131070 → total ≤ 131070 * old → all ≤ 131070 * new
small_more true old new total all more adds grows small before = omega (arith, adds, grows, small, before)
small_more false old new total all more adds grows small before = omega (arith, adds, grows, before)

pub count_of : (p : ℕ × ℕ → Bool) (f : ℕ × ℕ → ℕ) (bits : List (ℕ × ℕ)) (count : ℕ) → count ≡ length (filter p bits)
    → count ≡ length (map f (filter p bits))
count_of p f bits count is = is ∙ sym (length-map (filter p bits) f)

-- the tally of the bits with a property, for bits at the end of the list
tally_of_more : (p : ℕ × ℕ → Bool) (f : ℕ × ℕ → ℕ) (tally : Tally) (bits more others : List (ℕ × ℕ))
    → filter p more ≡ others → IsTally tally (map f (filter p bits) ++ map f others)
    → IsTally tally (map f (filter p (bits ++ more)))
tally_of_more p f tally bits more others same is = rw (filter-append p bits more, same, map-append f) is

one_limits : (span : Span) (x : ℕ × ℕ) → is_one_in span x ≡ true
    → (x.0 ≤ 64) × (span.least ≤ difference x) × (difference x ≤ span.most) × (difference x ≤ 12)
one_limits span (first, second) holds = grind (arith, nat_tests)

zero_limits : (span : Span) (x : ℕ × ℕ) → is_zero_in span x ≡ true
    → (90 ≤ x.0) × (span.least ≤ bit_duration x) × (bit_duration x ≤ span.most) × (bit_duration x ≤ 20000)
zero_limits span (first, second) holds = grind (arith, nat_tests)

module _ (old : Bits) (bits more : List (ℕ × ℕ)) (one zero : Span)
    (least_one : one.least ≡ min old.differences.least 65535) (most_one : one.most ≡ min old.differences.most 65535)
    (least_zero : zero.least ≡ min old.sums.least 65535) (most_zero : zero.most ≡ min old.sums.most 65535)
    (all : length (filter (is_one_in one) more) + length (filter (is_zero_in zero) more) ≡ length more) where
  apart : (x : ℕ × ℕ) → is_one_in one x ≡ true → is_zero_in zero x ≡ false
  apart x holds = elim (cases_Bool (is_zero_in zero x)) [
    | inl zeros ↦ absurd (omega (arith, (one_limits one x holds).0, (zero_limits zero x zeros).0))
    | inr other ↦ other
  ]

  each_bit : InEither (is_one_in one) (is_zero_in zero) more
  each_bit = in_either (is_one_in one) (is_zero_in zero) apart more all

  pub ones_in : AllBetween old.differences.least old.differences.most (map difference (filter (is_one_in one) more))
  ones_in = all_between_map (is_one_in one) difference _ _ (λ x holds.
      let limits = one_limits one x holds in (
        omega (arith, limits.1, limits.3, least_one),
        omega (arith, limits.2, most_one),
      )) more

  pub zeros_in : AllBetween old.sums.least old.sums.most (map bit_duration (filter (is_zero_in zero) more))
  zeros_in = all_between_map (is_zero_in zero) bit_duration _ _ (λ x holds.
      let limits = zero_limits zero x holds in (
        omega (arith, limits.1, limits.3, least_zero),
        omega (arith, limits.2, most_zero),
      )) more

  pub differences_grow : (tally : Tally)
      → IsTally tally (map difference (filter is_one_pair bits) ++ map difference (filter (is_one_in one) more))
      → IsTally tally (map difference (filter is_one_pair (bits ++ more)))
  differences_grow tally is =
      tally_of_more is_one_pair difference tally bits more (filter (is_one_in one) more)
      (same_filter (is_one_in one) (is_zero_in zero) is_one_pair (λ x holds. grind (arith, nat_tests))
      (λ x holds. grind (arith, nat_tests)) more each_bit) is

  pub sums_grow : (tally : Tally)
      → IsTally tally (map bit_duration (filter is_zero_pair bits) ++ map bit_duration (filter (is_zero_in zero) more))
      → IsTally tally (map bit_duration (filter is_zero_pair (bits ++ more)))
  sums_grow tally is =
      tally_of_more is_zero_pair bit_duration tally bits more (filter (is_zero_in zero) more)
      (other_filter (is_one_in one) (is_zero_in zero) is_zero_pair (λ x holds. grind (arith, nat_tests))
      (λ x holds. grind (arith, nat_tests)) more each_bit) is
