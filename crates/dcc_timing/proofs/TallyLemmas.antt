-- How the figures of a list grow.
use Rattle.std.proofs.Common.{◌≡◌, ◌≢◌, ℕ, suc, zero, ◌+◌, ◌*◌, ◌<◌, ◌≤◌, min, max, List, [], ◌∷◌, ◌++◌, length}
use Rattle.std.proofs.Common.{None, Some, replicate, sum, refl, sym, ap, ◌∙◌, arith, length-append}
use Rattle.std.specs.List.{fold}
use Rattle.std.specs.Prelude.{unwrap_or}
use Rattle.std.proofs.lemmas.List.{length-replicate}
use Rattle.std.proofs.lemmas.List.Sums.{fold-append, sum_by-append}
use Rattle.std.proofs.lemmas.List.Folds.{sum_by-replicate}
use Rattle.dcc_timing.specs.declared.tally.Tally.{Tally}
use Rattle.dcc_timing.specs.Numbers.{least, most}
use Rattle.dcc_timing.specs.Inner.Steps.{lesser, greater}
use Rattle.dcc_timing.specs.Tallies.{IsTally, mean, quotient}

-- a number that is there changes neither

fold_min_same : (n number least : ℕ) → least ≤ number → fold min least (replicate n number) ≡ least
fold_min_same zero number least below = refl
fold_min_same (suc n) number least below =
    let here : min least number ≡ least = omega arith in
    ap (λ m. fold min m (replicate n number)) here ∙ fold_min_same n number least below

fold_max_same : (n number most : ℕ) → number ≤ most → fold max most (replicate n number) ≡ most
fold_max_same zero number most above = refl
fold_max_same (suc n) number most above =
    let here : max most number ≡ most = omega arith in
    ap (λ m. fold max m (replicate n number)) here ∙ fold_max_same n number most above

pub least_more : (numbers : List ℕ) (number n : ℕ) → 0 < n
    → least (numbers ++ replicate n number) ≡ Some (lesser (least numbers) number)
unfolding least
least_more numbers number zero some = absurd (omega (arith, some))
least_more [] number (suc n) some = ap Some (fold_min_same n number number (omega arith))
least_more (first ∷ numbers) number (suc n) some =
    ap Some (fold-append min first numbers (number ∷ replicate n number)
    ∙ fold_min_same n number (min (fold min first numbers) number) (omega arith))

pub most_more : (numbers : List ℕ) (number n : ℕ) → 0 < n
    → most (numbers ++ replicate n number) ≡ Some (greater (most numbers) number)
unfolding most
most_more numbers number zero some = absurd (omega (arith, some))
most_more [] number (suc n) some = ap Some (fold_max_same n number number (omega arith))
most_more (first ∷ numbers) number (suc n) some =
    ap Some (fold-append max first numbers (number ∷ replicate n number)
    ∙ fold_max_same n number (max (fold max first numbers) number) (omega arith))

pub tally_none : (tally : Tally) → tally.count ≡ 0 → tally.sum ≡ 0 → tally.least ≡ 0 → tally.most ≡ 0
    → IsTally tally []
unfolding least most
tally_none tally count total lowest highest =
    record { count = count; total = total; lowest = lowest; highest = highest }

-- the least and the greatest number with `number` at the end of the list

least_next : (old new : Tally) (number : ℕ) (numbers : List ℕ) → IsTally old numbers
    → (old.count ≡ 0 → new.least ≡ number) → (old.count ≢ 0 → new.least ≡ min old.least number)
    → new.least ≡ lesser (least numbers) number
unfolding least
least_next old new number [] tally first next = first tally.count
least_next old new number (other ∷ numbers) tally first next =
    next (λ none. omega (arith, none, tally.count)) ∙ ap (λ n. min n number) tally.lowest

-- the only number that the range of an empty list covers
pub first_within : (tally : Tally) (number : ℕ) (numbers : List ℕ) → IsTally tally numbers → tally.count ≡ 0
    → tally.least ≤ number → number ≤ tally.most → tally.least ≡ number
unfolding least most
first_within tally number [] is none low high = omega (arith, is.lowest, is.highest, low, high)
first_within tally number (other ∷ numbers) is none low high = absurd (omega (arith, none, is.count))

most_next : (old new : Tally) (number : ℕ) (numbers : List ℕ) → IsTally old numbers
    → new.most ≡ max old.most number → new.most ≡ greater (most numbers) number
unfolding most
most_next old new number [] tally more = omega (arith, more, tally.highest)
most_next old new number (other ∷ numbers) tally more = more ∙ ap (λ n. max n number) tally.highest

pub tally_more : (old new : Tally) (number n : ℕ) → 0 < n → new.count ≡ old.count + n
    → new.sum ≡ old.sum + n * number → (old.count ≡ 0 → new.least ≡ number)
    → (old.count ≢ 0 → new.least ≡ min old.least number) → new.most ≡ max old.most number
    → (numbers : List ℕ) → IsTally old numbers → IsTally new (numbers ++ replicate n number)
tally_more old new number n some count total first next highest numbers tally = record {
  count = count ∙ ap (λ k. k + n) tally.count
      ∙ sym (length-append numbers (replicate n number) ∙ ap (λ k. length numbers + k) (length-replicate n number));
  total = total ∙ ap (λ k. k + n * number) tally.total
      ∙ sym (sum_by-append (λ x. x) numbers (replicate n number)
      ∙ ap (λ k. sum numbers + k) (sum_by-replicate (λ x. x) n number));
  lowest = least_next old new number numbers tally first next
      ∙ ap (λ l. unwrap_or l 0) (sym (least_more numbers number n some));
  highest = most_next old new number numbers tally highest
      ∙ ap (λ l. unwrap_or l 0) (sym (most_more numbers number n some));
}

-- the least and the greatest number of a tally

pub least_none : (tally : Tally) (numbers : List ℕ) → IsTally tally numbers → tally.count ≡ 0 → None ≡ least numbers
unfolding least
least_none tally [] is none = refl
least_none tally (number ∷ numbers) is none = absurd (omega (arith, none, is.count))

pub least_some : (tally : Tally) (numbers : List ℕ) → IsTally tally numbers → tally.count ≢ 0
    → Some tally.least ≡ least numbers
unfolding least
least_some tally [] is some = absurd (some is.count)
least_some tally (number ∷ numbers) is some = ap Some is.lowest

pub most_none : (tally : Tally) (numbers : List ℕ) → IsTally tally numbers → tally.count ≡ 0 → None ≡ most numbers
unfolding most
most_none tally [] is none = refl
most_none tally (number ∷ numbers) is none = absurd (omega (arith, none, is.count))

pub most_some : (tally : Tally) (numbers : List ℕ) → IsTally tally numbers → tally.count ≢ 0
    → Some tally.most ≡ most numbers
unfolding most
most_some tally [] is some = absurd (some is.count)
most_some tally (number ∷ numbers) is some = ap Some is.highest

-- the mean of a tally

pub mean_none : (tally : Tally) (numbers : List ℕ) → IsTally tally numbers → tally.count ≡ 0 → None ≡ mean numbers
unfolding mean
mean_none tally [] is none = refl
mean_none tally (number ∷ numbers) is none = absurd (omega (arith, none, is.count))

pub mean_some : (tally : Tally) (numbers : List ℕ) → IsTally tally numbers → 0 < tally.count
    → Some (quotient tally.sum tally.count) ≡ mean numbers
unfolding mean
mean_some tally [] is some = absurd (omega (arith, some, is.count))
mean_some tally (number ∷ numbers) is some =
    ap (λ k. Some (quotient tally.sum k)) is.count ∙ ap (λ k. Some (quotient k (length (number ∷ numbers)))) is.total
