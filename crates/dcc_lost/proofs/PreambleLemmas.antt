-- The preamble at the end of a list of half-bits, after one more half-bit.
use Rattle.std.proofs.Common.{◌≡◌, ◌≢◌, ℕ, suc, ◌+◌, ◌-◌, ◌<◌, min, List, [], ◌∷◌, ◌++◌, length, take, map}
use Rattle.std.proofs.Common.{get_or, Option, None, Some, IfSome, refl, sym, ap, ◌∙◌, arith}
use Rattle.std.proofs.Common.{append-nil, append_assoc, length-append, subst, true, false}
use Rattle.std.proofs.lemmas.List.{map-append, get_or-drop}
use Rattle.dcc_wire.specs.declared.half.Half.{Half}
use Rattle.dcc_wire.specs.declared.half.Half.TheVariants.{One}
use Rattle.dcc_wire.specs.declared.seen.Seen.{Seen}
use Rattle.dcc_wire.specs.declared.seen.Seen.TheVariants.{Nothing, Packet, Refused}
use Rattle.dcc_wire.specs.Framing.{Rest, Hunting, InBody, is_hunting, rest, seen, report_at, ones_at_end, ones_before}
use Rattle.dcc_wire.specs.Framing.{starts_below, used_up}
use Rattle.dcc_wire.specs.Half.{class_of}
use Rattle.dcc_wire.specs.Inner.Steps.{answer_to, left_of, rest_after}
use Rattle.dcc_wire.specs.Outcomes.{ones_left}
use Rattle.dcc_wire.proofs.FramingLemmas.{reported_something, rest-push, seen-push}
use Rattle.dcc_wire.proofs.OutcomeLemmas.{outcome_of-something}
use Rattle.dcc_wire.proofs.SeenLemmas.{seen-none}
use Rattle.dcc_timing.specs.Numbers.{keep_last}
use Rattle.dcc_lost.specs.Figures.{preambles_from}
use Rattle.dcc_lost.specs.Nearest.{nearest_class}
use Rattle.dcc_lost.specs.Preambles.{all_unused_at_end, nearest_ones_at_end, preamble_at_end}
use Rattle.dcc_lost.specs.Unused.{last_outcome, unused_after, unused_at_end}
use Rattle.dcc_lost.proofs.CauseLemmas.{ones_at_end-one, ones_at_end-other}
use Rattle.dcc_lost.proofs.HeardLemmas.{last_outcome-push}
use Rattle.dcc_lost.proofs.UsedLemmas.{all_unused_by_last}

-- the last outcome of a list has its place in the list

abbrev LastBelow : List (ℕ × Seen) → ℕ → Type 0
LastBelow outcomes count = IfSome (last_outcome outcomes) (λ outcome. outcome.0 < count)

one_more : (last : Option (ℕ × Seen)) (count : ℕ) → IfSome last (λ outcome. outcome.0 < count)
    → IfSome last (λ outcome. outcome.0 < count + 1)
one_more None count below = tt
one_more (Some outcome) count below = omega (arith, below)

below_next : (outcomes : List (ℕ × Seen)) (count : ℕ) (answer : Seen) → LastBelow outcomes count
    → LastBelow (outcomes ++ report_at count answer) (count + 1)
unfolding report_at
below_next outcomes count Nothing below = rw append-nil (one_more (last_outcome outcomes) count below)
below_next outcomes count (Packet bytes) below = rw last_outcome-push (omega arith)
below_next outcomes count (Refused fault) below = rw last_outcome-push (omega arith)

below_push : (durations : List ℕ) (us : ℕ) → LastBelow (seen durations) (length durations)
    → LastBelow (seen (durations ++ us ∷ [])) (length (durations ++ us ∷ []))
below_push durations us below =
    rw (seen-push durations us, length-append durations (us ∷ []))
    (below_next (seen durations) (length durations) (answer_to (rest durations) (class_of us)) below)

below_list : (durations more : List ℕ) → LastBelow (seen durations) (length durations)
    → LastBelow (seen (durations ++ more)) (length (durations ++ more))
below_list durations [] below = rw append-nil below
below_list durations (us ∷ more) below =
    subst (λ l. LastBelow (seen l) (length l)) (append_assoc durations (us ∷ []) more)
    (below_list (durations ++ us ∷ []) more (below_push durations us below))

last_below : (durations : List ℕ) → LastBelow (seen durations) (length durations)
unfolding last_outcome
last_below durations = below_list [] durations (rw seen-none tt)

-- half-bits that no outcome uses

after_more : (count : ℕ) (last : Option (ℕ × Seen)) → IfSome last (λ outcome. outcome.0 < count)
    → unused_after (count + 1) last ≡ unused_after count last + 1
unfolding unused_after
after_more count None below = refl
after_more count (Some (place, outcome)) below = omega (arith, below)

after_new : (count : ℕ) (answer : Seen) → unused_after (count + 1) (Some (count, answer)) ≡ ones_left answer
unfolding unused_after
after_new count answer = omega arith

-- an unfinished body stays unfinished without an outcome
hunts_before : (framer : Rest) (half : Half) → is_hunting (rest_after framer half) ≡ true
    → answer_to framer half ≡ Nothing → is_hunting framer ≡ true
unfolding rest_after answer_to left_of
hunts_before (Hunting ones) half hunts nothing = refl
hunts_before (InBody halves) half hunts nothing =
    let none = outcome_of-something (halves ++ half ∷ []) nothing in
    absurd (let busy = rw none at hunts in cc)

answer_none : (outcomes : List (ℕ × Seen)) (place : ℕ) (answer : Seen) → outcomes ≡ outcomes ++ report_at place answer
    → answer ≡ Nothing
unfolding report_at
answer_none outcomes place Nothing e = refl
answer_none outcomes place (Packet bytes) e =
    absurd (omega (arith, ap length e, length-append outcomes ((place, Packet bytes) ∷ [])))
answer_none outcomes place (Refused fault) e =
    absurd (omega (arith, ap length e, length-append outcomes ((place, Refused fault) ∷ [])))

unused_hunting : (durations : List ℕ) → is_hunting (rest durations) ≡ true
    → all_unused_at_end durations ≡ unused_after (length durations) (last_outcome (seen durations))
unused_hunting durations hunts = all_unused_by_last durations ∙ rw hunts refl

pub unused_busy : (durations : List ℕ) → is_hunting (rest durations) ≡ false → 0 ≡ all_unused_at_end durations
unused_busy durations busy = sym (all_unused_by_last durations ∙ rw busy refl)

module _ (durations : List ℕ) (us : ℕ) where
  pub unused_quiet : seen (durations ++ us ∷ []) ≡ seen durations → is_hunting (rest (durations ++ us ∷ [])) ≡ true
      → all_unused_at_end (durations ++ us ∷ []) ≡ all_unused_at_end durations + 1
  unused_quiet same hunts =
      let nothing = answer_none (seen durations) (length durations) (answer_to (rest durations) (class_of us))
      (sym same ∙ seen-push durations us) in
      let was = hunts_before (rest durations) (class_of us) (ap is_hunting (sym (rest-push durations us)) ∙ hunts)
      nothing in
      unused_hunting (durations ++ us ∷ []) hunts
      ∙ ap (λ l. unused_after (length (durations ++ us ∷ [])) (last_outcome l)) same
      ∙ ap (λ n. unused_after n (last_outcome (seen durations))) (length-append durations (us ∷ []))
      ∙ after_more (length durations) (last_outcome (seen durations)) (last_below durations)
      ∙ ap (λ n. n + 1) (sym (unused_hunting durations was))

  pub unused_shown : (answer : Seen)
      → seen (durations ++ us ∷ []) ≡ seen durations ++ report_at (length durations) answer
      → answer ≢ Nothing → is_hunting (rest (durations ++ us ∷ [])) ≡ true
      → ones_left answer ≡ all_unused_at_end (durations ++ us ∷ [])
  unused_shown answer sees something hunts =
      let ends : last_outcome (seen (durations ++ us ∷ [])) ≡ Some (length durations, answer) =
      ap last_outcome (sees ∙ ap (λ l. seen durations ++ l) (reported_something (length durations) answer something))
      ∙ last_outcome-push (seen durations) (length durations, answer) in
      sym (unused_hunting (durations ++ us ∷ []) hunts
      ∙ ap (unused_after (length (durations ++ us ∷ []))) ends
      ∙ ap (λ n. unused_after n (Some (length durations, answer))) (length-append durations (us ∷ []))
      ∙ after_new (length durations) answer)

-- half-bits of ones

pub ones_push : (durations : List ℕ) (us : ℕ)
    → nearest_ones_at_end (durations ++ us ∷ []) ≡ ones_at_end (map nearest_class durations ++ nearest_class us ∷ [])
ones_push durations us = ap ones_at_end (map-append nearest_class durations (us ∷ []))

pub ones_more : (durations : List ℕ) (us ones next : ℕ) → nearest_class us ≡ One
    → ones ≡ min 65535 (nearest_ones_at_end durations) → next ≡ min 65535 (ones + 1)
    → next ≡ min 65535 (nearest_ones_at_end (durations ++ us ∷ []))
ones_more durations us ones next one before is =
    let more : nearest_ones_at_end (durations ++ us ∷ []) ≡ suc (nearest_ones_at_end durations) =
    ones_push durations us ∙ ones_at_end-one (map nearest_class durations) (nearest_class us) one in
    omega (arith, more, before, is)

pub ones_none : (durations : List ℕ) (us : ℕ) → nearest_class us ≢ One
    → 0 ≡ min 65535 (nearest_ones_at_end (durations ++ us ∷ []))
ones_none durations us other =
    let none : nearest_ones_at_end (durations ++ us ∷ []) ≡ 0 =
    ones_push durations us ∙ ones_at_end-other (map nearest_class durations) (nearest_class us) other in
    omega (arith, none)

-- the preambles before half-bits

pub preambles_from-push : (before durations : List ℕ) (us : ℕ)
    → preambles_from before (durations ++ us ∷ [])
    ≡ preambles_from before durations ++ preamble_at_end (before ++ durations) ∷ []
unfolding preambles_from
preambles_from-push before [] us = rw append-nil refl
preambles_from-push before (first ∷ durations) us =
    ap (λ l. preamble_at_end before ∷ l)
    (preambles_from-push (before ++ first ∷ []) durations us
    ∙ ap (λ l. preambles_from (before ++ first ∷ []) durations ++ preamble_at_end l ∷ [])
    (append_assoc before (first ∷ []) durations))

length-preambles_from : (before durations : List ℕ) → length (preambles_from before durations) ≡ length durations
unfolding preambles_from
length-preambles_from before [] = refl
length-preambles_from before (us ∷ durations) = ap suc (length-preambles_from (before ++ us ∷ []) durations)

preambles_from-at : (before durations : List ℕ) (i : ℕ) → i < length durations
    → get_or (preambles_from before durations) i 0 ≡ preamble_at_end (before ++ take i durations)
unfolding preambles_from
preambles_from-at before [] i within = absurd (omega arith)
preambles_from-at before (us ∷ durations) ℕ.zero within = ap preamble_at_end (sym (append-nil before))
preambles_from-at before (us ∷ durations) (suc i) within =
    preambles_from-at (before ++ us ∷ []) durations i (omega arith)
    ∙ ap preamble_at_end (append_assoc before (us ∷ []) (take i durations))

pub preamble_none : preamble_at_end [] ≡ 0
unfolding preamble_at_end ones_at_end ones_before all_unused_at_end used_up starts_below
preamble_none = refl

-- the preamble before the last so many half-bits
pub preamble_before : (durations : List ℕ) (body : ℕ) → 0 < body
    → get_or (keep_last body (preambles_from [] durations)) 0 0
    ≡ preamble_at_end (take (length durations - body) durations)
unfolding preambles_from
preamble_before [] body some = let none : 0 - body ≡ 0 = omega arith in rw none (sym preamble_none)
preamble_before (us ∷ durations) body some =
    let all : List ℕ = us ∷ durations in
    let count = length-preambles_from [] all in
    let within : length all - body < length all = omega (arith, some) in
    get_or-drop (length (preambles_from [] all) - body) (preambles_from [] all) 0 0
    ∙ ap (λ n. get_or (preambles_from [] all) n 0) (omega (arith, count))
    ∙ preambles_from-at [] all (length all - body) within
