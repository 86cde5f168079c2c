-- How the steps of a list grow.
use Rattle.std.proofs.Common.{◌≡◌, ◌≢◌, ℕ, ◌+◌, ◌-◌, ◌<◌, ◌≤◌, min, max, List, [], ◌∷◌, ◌++◌, length, Option}
use Rattle.std.proofs.Common.{Some, None, refl, sym, ap, ◌∙◌, arith, length-append}
use Rattle.std.specs.Prelude.{unwrap_or}
use Rattle.std.specs.List.{fold}
use Rattle.std.proofs.lemmas.List.Sums.{fold_push}
use Rattle.dcc_timing.specs.declared.gaps.Gaps.{Gaps}
use Rattle.dcc_timing.specs.Numbers.{most, steps}
use Rattle.dcc_timing.specs.Inner.Steps.{greater}
use Rattle.dcc_timing.specs.KeptGaps.{last, AreGaps}
use Rattle.dcc_timing.proofs.TallyLemmas.{most_more}

-- the step from the last number, if there is one
abbrev pub step_from : Option ℕ → ℕ → List ℕ
step_from None number = []
step_from (Some before) number = (number - before) ∷ []

steps_behind : (first : ℕ) (numbers : List ℕ) (number : ℕ)
    → steps (first ∷ (numbers ++ number ∷ []))
    ≡ steps (first ∷ numbers)
    ++ step_from (fold (λ (other : Option ℕ) next. Some next) (Some first) numbers) number
unfolding steps
steps_behind first [] number = refl
steps_behind first (next ∷ numbers) number = ap (λ l. (next - first) ∷ l) (steps_behind next numbers number)

pub steps_push : (numbers : List ℕ) (number : ℕ)
    → steps (numbers ++ number ∷ []) ≡ steps numbers ++ step_from (last numbers) number
unfolding steps last
steps_push [] number = refl
steps_push (first ∷ numbers) number = steps_behind first numbers number

pub last_push : (numbers : List ℕ) (number : ℕ) → last (numbers ++ number ∷ []) ≡ Some number
unfolding last
last_push numbers number = fold_push (λ (other : Option ℕ) next. Some next) None numbers number

-- a list that is not empty has a last number, and a longer list has a greatest step

last_first : (first : ℕ) (numbers : List ℕ)
    → fold (λ (other : Option ℕ) next. Some next) (Some first) numbers
    ≡ Some (unwrap_or (fold (λ (other : Option ℕ) next. Some next) (Some first) numbers) 0)
last_first first [] = refl
last_first first (next ∷ numbers) = last_first next numbers

last_some : (numbers : List ℕ) → 1 ≤ length numbers → last numbers ≡ Some (unwrap_or (last numbers) 0)
unfolding last
last_some [] some = absurd (omega (arith, some))
last_some (first ∷ numbers) some = last_first first numbers

pub longest_none : (gaps : Gaps) (ends : List ℕ) → AreGaps gaps ends → gaps.packets < 2 → None ≡ most (steps ends)
unfolding most steps
longest_none gaps [] are few = refl
longest_none gaps (first ∷ []) are few = refl
longest_none gaps (first ∷ next ∷ ends) are few = absurd (omega (arith, are.count, few))

pub longest_some : (gaps : Gaps) (ends : List ℕ) → AreGaps gaps ends → 2 ≤ gaps.packets
    → Some gaps.longest ≡ most (steps ends)
unfolding most steps
longest_some gaps [] are many = absurd (omega (arith, are.count, many))
longest_some gaps (first ∷ []) are many = absurd (omega (arith, are.count, many))
longest_some gaps (first ∷ next ∷ ends) are many = ap Some are.longest

pub gaps_none : (gaps : Gaps) → gaps.packets ≡ 0 → gaps.end ≡ 0 → gaps.longest ≡ 0 → AreGaps gaps []
unfolding last most steps
gaps_none gaps count end longest = record { count = count; end = end; longest = longest }

-- one packet more

greatest : (other : Option ℕ) (number : ℕ) → max (unwrap_or other 0) number ≡ unwrap_or (Some (greater other number)) 0
greatest None number = omega arith
greatest (Some other) number = refl

-- the greatest step after one more packet
longest_next : (old new : Gaps) (end : ℕ) (ends : List ℕ) → AreGaps old ends
    → (old.packets ≡ 0 → new.longest ≡ old.longest)
    → (old.packets ≢ 0 → new.longest ≡ max old.longest (end - old.end))
    → new.longest ≡ unwrap_or (most (steps (ends ++ end ∷ []))) 0
unfolding most steps
longest_next old new end [] are first next = first are.count ∙ are.longest
longest_next old new end (start ∷ ends) are first next =
    let all : List ℕ = start ∷ ends in
    let before : last all ≡ Some old.end =
    last_some all (omega arith) ∙ ap Some (sym are.end) in
    next (λ none. omega (arith, none, are.count)) ∙ ap (λ n. max n (end - old.end)) are.longest
    ∙ greatest (most (steps all)) (end - old.end)
    ∙ ap (λ l. unwrap_or l 0) (sym (most_more (steps all) (end - old.end) 1 (omega arith))
    ∙ ap most (sym (steps_push all end ∙ ap (λ l. steps all ++ step_from l end) before)))

pub gaps_more : (old new : Gaps) (end : ℕ) → new.packets ≡ min (old.packets + 1) 2 → new.end ≡ end
    → (old.packets ≡ 0 → new.longest ≡ old.longest)
    → (old.packets ≢ 0 → new.longest ≡ max old.longest (end - old.end))
    → (ends : List ℕ) → AreGaps old ends → AreGaps new (ends ++ end ∷ [])
gaps_more old new end count now first next ends are = record {
  count = omega (arith, count, are.count, length-append ends (end ∷ []));
  end = now ∙ ap (λ l. unwrap_or l 0) (sym (last_push ends end));
  longest = longest_next old new end ends are first next;
}
