-- The half-bits that no outcome uses, by the last outcome.
use Rattle.std.proofs.Common.{◌≡◌, ℕ, ◌-◌, ◌*◌, ◌≤◌, min, List, [], ◌∷◌, length, drop, map, Option, Some, sym}
use Rattle.std.proofs.Common.{ap, arith, Bool, inl, inr, length-drop, if◌then◌else◌}
use Rattle.std.proofs.lemmas.List.{length-map}
use Rattle.dcc_wire.specs.declared.half.Half.{Half}
use Rattle.dcc_wire.specs.declared.seen.Seen.{Seen}
use Rattle.dcc_wire.specs.Framing.{Rest, StandsFor, rest, rest_at, hunting, seen, starts, used_up}
use Rattle.dcc_wire.specs.Half.{class_of}
use Rattle.dcc_wire.specs.Outcomes.{outcome_of, ones_left, bits_in, bytes_in, by_halves}
use Rattle.dcc_wire.proofs.ByteBits.{cases_Option, some_same}
use Rattle.dcc_wire.proofs.OutcomeLemmas.{outcome_of-long, ones_left_le}
use Rattle.dcc_wire.specs.Framing.{is_hunting}
use Rattle.dcc_wire.specs.Inner.OutcomesAt.{outcome_at, outcomes_at}
use Rattle.dcc_wire.proofs.OutcomesAt.{seen_at}
use Rattle.dcc_lost.specs.Unused.{last_outcome, unused_after, unused_at_end, Hears}
use Rattle.dcc_lost.specs.Preambles.{all_unused_at_end}
use Rattle.dcc_lost.proofs.HeardLemmas.{last_outcome-push}

by_halves-left : (n : ℕ) (tail : List Half) (p : ℕ × Seen) → by_halves n tail ≡ Some p → ones_left p.1 ≤ p.0
unfolding by_halves ones_left
by_halves-left n tail p e = grind arith

-- the half-bits of an end bit are among those of the body
left_within : (halves : List Half) (p : ℕ × Seen) → outcome_of halves ≡ Some p → ones_left p.1 ≤ p.0
unfolding outcome_of
left_within halves p e = elim (cases_Option (bytes_in 6 (bits_in halves))) [
  | inl none ↦ by_halves-left (2 * length (bits_in halves)) (drop (2 * length (bits_in halves)) halves) p (rw none at e)
  | inr some ↦
      let count = ap (λ (r : ℕ × Seen). r.0) (some_same (rw some.1 at e)) in
      omega (arith, count, ones_left_le p.1)
]

-- by the state of a framer and its last outcome
abbrev pub unused_left : Rest → ℕ → Option (ℕ × Seen) → ℕ
unused_left framer count last = if is_hunting framer then min 20 (unused_after count last) else 0

by_starts : (halves : List Half) (places : List ℕ)
    → min 20 (length halves - used_up halves places)
    ≡ unused_left (rest_at halves places) (length halves) (last_outcome (outcomes_at halves places))
unfolding used_up rest_at hunting outcomes_at outcome_at last_outcome unused_after
by_starts halves [] = omega arith
by_starts halves (start ∷ earlier) = elim (cases_Option (outcome_of (drop start halves))) [
  | inl none ↦ rw none (omega (arith, length-drop start halves))
  | inr some ↦
      let long = outcome_of-long (drop start halves) some.0 some.1 in
      let left = left_within (drop start halves) some.0 some.1 in
      rw (some.1, last_outcome-push) (omega (arith, long, left, length-drop start halves))
]

pub unused_by_last : (durations : List ℕ)
    → unused_at_end durations ≡ unused_left (rest durations) (length durations) (last_outcome (seen durations))
unfolding unused_at_end rest
unused_by_last durations =
    let halves : List Half = map class_of durations in
    rw (seen_at durations, ← length-map durations class_of) (by_starts halves (starts halves))

pub unused_is : (durations : List ℕ) (framer : Rest) (unused : ℕ) (since : Option ℕ) (hunts : Bool)
    → Hears framer unused since durations → hunts ≡ is_hunting framer
    → (if hunts then unused else 0) ≡ unused_at_end durations
unfolding StandsFor
unused_is durations framer unused since hunts hears is =
    rw (is, hears.stands, hears.left_unused) (sym (unused_by_last durations))

-- the same without a limit

abbrev pub all_unused_left : Rest → ℕ → Option (ℕ × Seen) → ℕ
all_unused_left framer count last = if is_hunting framer then unused_after count last else 0

all_by_starts : (halves : List Half) (places : List ℕ)
    → length halves - used_up halves places
    ≡ all_unused_left (rest_at halves places) (length halves) (last_outcome (outcomes_at halves places))
unfolding used_up rest_at hunting outcomes_at outcome_at last_outcome unused_after
all_by_starts halves [] = omega arith
all_by_starts halves (start ∷ earlier) = elim (cases_Option (outcome_of (drop start halves))) [
  | inl none ↦ rw none (omega (arith, length-drop start halves))
  | inr some ↦
      let long = outcome_of-long (drop start halves) some.0 some.1 in
      let left = left_within (drop start halves) some.0 some.1 in
      rw (some.1, last_outcome-push) (omega (arith, long, left, length-drop start halves))
]

pub all_unused_by_last : (durations : List ℕ)
    → all_unused_at_end durations
    ≡ all_unused_left (rest durations) (length durations) (last_outcome (seen durations))
unfolding all_unused_at_end rest
all_unused_by_last durations =
    let halves : List Half = map class_of durations in
    rw (seen_at durations, ← length-map durations class_of) (all_by_starts halves (starts halves))
