-- How the tallies by class grow.
use Rattle.std.proofs.Common.{◌≡◌, ℕ, suc, zero, Bool, true, false, List, [], ◌∷◌, ◌++◌, replicate, refl, ap, ◌∙◌}
use Rattle.std.proofs.Common.{append-nil}
use Rattle.std.specs.List.{filter}
use Rattle.std.proofs.lemmas.List.Elements.{filter-append}
use Rattle.dcc_timing.specs.declared.tally.Tally.{Tally}
use Rattle.dcc_timing.specs.Tallies.{IsTally}

filter_in : (p : ℕ → Bool) (n number : ℕ) → p number ≡ true → filter p (replicate n number) ≡ replicate n number
filter_in p zero number holds = refl
filter_in p (suc n) number holds = rw holds (ap (λ l. number ∷ l) (filter_in p n number holds))

filter_out : (p : ℕ → Bool) (n number : ℕ) → p number ≡ false → filter p (replicate n number) ≡ []
filter_out p zero number fails = refl
filter_out p (suc n) number fails = rw fails (filter_out p n number fails)

-- halves of this class are added to it, and to no other
pub tally_in : (p : ℕ → Bool) (old new : Tally) (us number n : ℕ) (halves : List ℕ) → p us ≡ true → number ≡ us
    → ((numbers : List ℕ) → IsTally old numbers → IsTally new (numbers ++ replicate n number))
    → IsTally old (filter p halves) → IsTally new (filter p (halves ++ replicate n us))
tally_in p old new us number n halves holds same adds tally =
    let grown : filter p (halves ++ replicate n us) ≡ filter p halves ++ replicate n us =
    filter-append p halves (replicate n us) ∙ ap (λ l. filter p halves ++ l) (filter_in p n us holds) in
    rw grown (rw same at (adds (filter p halves) tally))

pub tally_out : (p : ℕ → Bool) (old : Tally) (us n : ℕ) (halves : List ℕ) → p us ≡ false
    → IsTally old (filter p halves) → IsTally old (filter p (halves ++ replicate n us))
tally_out p old us n halves fails tally =
    let same : filter p (halves ++ replicate n us) ≡ filter p halves =
    filter-append p halves (replicate n us) ∙ ap (λ l. filter p halves ++ l) (filter_out p n us fails)
    ∙ append-nil (filter p halves) in
    rw same tally
