-- What is seen, from the outcomes of the bodies one after the other.
use Rattle.std.proofs.Common.{◌≡◌, ℕ, ◌+◌, ◌-◌, List, [], ◌∷◌, refl, Option, Some, None, map, reverse, drop}
use Rattle.std.proofs.lemmas.List.{reverse-append}
use Rattle.std.proofs.lemmas.List.Elements.{filter_map-append}
use Rattle.std.specs.Option.{option_map, option_map_or}
use Rattle.std.specs.List.{filter_map, cons_option}
use Rattle.dcc_wire.specs.declared.half.Half.{Half}
use Rattle.dcc_wire.specs.declared.seen.Seen.{Seen}
use Rattle.dcc_wire.specs.Framing.{seen, starts}
use Rattle.dcc_wire.specs.Half.{class_of}
use Rattle.dcc_wire.specs.Inner.OutcomesAt.{outcome_at, outcomes_at}
use Rattle.dcc_wire.specs.Outcomes.{outcome_of}

-- the outcome of the body at a place, with the place of its last half-bit
abbrev report : ℕ → ℕ × Seen → ℕ × Seen
report start p = (start + p.0 - 1, p.1)

here_is : (start : ℕ) (outcome : Option (ℕ × Seen))
    → cons_option (option_map (report start) outcome) [] ≡ option_map_or (λ p. report start p ∷ []) outcome []
here_is start None = refl
here_is start (Some p) = refl

by_places : (halves : List Half) (places : List ℕ)
    → filter_map (λ start. option_map (λ p. (start + p.0 - 1, p.1)) (outcome_of (drop start halves))) (reverse places)
    ≡ outcomes_at halves places
unfolding outcomes_at outcome_at
by_places halves [] = refl
by_places halves (start ∷ earlier) =
    let here = here_is start (outcome_of (drop start halves)) in
    rw (reverse-append (start ∷ []) earlier, filter_map-append, by_places halves earlier, here) refl

pub seen_at : (durations : List ℕ)
    → seen durations ≡ outcomes_at (map class_of durations) (starts (map class_of durations))
unfolding seen
seen_at durations = by_places (map class_of durations) (starts (map class_of durations))
