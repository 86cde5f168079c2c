-- The start places and outcomes of a list with one half more.
use Rattle.std.proofs.Common.{◌≡◌, ℕ, suc, zero, ◌+◌, ◌-◌, ◌<◌, ◌≤◌, inl, inr, Bool, true, false, cond, List, [], ◌∷◌}
use Rattle.std.proofs.Common.{◌++◌, length, length-append, drop, Some, None, refl, sym, ap, ◌∙◌, arith, add-one}
use Rattle.std.proofs.Common.{append-nil, min, leb, ◌≢◌, take, length-drop, ◌&&◌, map, length-take, reverse}
use Rattle.std.proofs.Math.ListN.{get_or-append}
use Rattle.std.proofs.Math.Seq.{drop-append_seam, take-append_seam, get_or-append_seam}
use Rattle.std.proofs.lemmas.Bool.{cases_Bool, false≢true, and_right, lt-leb}
use Rattle.std.proofs.lemmas.Bool.Decides.{nat_tests}
use Rattle.std.proofs.lemmas.List.{take-append-le, drop-append-le, length-map, map-append, drop-drop, reverse-append}
use Rattle.std.proofs.lemmas.List.{length-reverse}
use Rattle.dcc_wire.specs.declared.half.Half.{Half}
use Rattle.dcc_wire.specs.declared.half.Half.TheVariants.{One, Bad}
use Rattle.dcc_wire.specs.declared.seen.Seen.{Seen}
use Rattle.dcc_wire.specs.declared.seen.Seen.TheVariants.{Nothing}
use Rattle.dcc_wire.specs.Framing.{Hunting, InBody, rest, seen, report_at, starts_below, ones_before}
use Rattle.dcc_wire.specs.Framing.{ones_at_end, rest_at, hunting, used_up, is_start, is_zero}
use Rattle.dcc_wire.specs.Framing.{starts}
use Rattle.dcc_wire.specs.Half.{class_of}
use Rattle.dcc_wire.specs.Inner.Steps.{rest_after, answer_to, answer_of, left_of}
use Rattle.dcc_wire.specs.Outcomes.{bytes_in, bits_in, by_halves, outcome_of}
use Rattle.dcc_wire.specs.Inner.OutcomesAt.{outcome_at, outcomes_at}
use Rattle.dcc_wire.specs.Inner.OutcomeParts.{behind_bits}
use Rattle.dcc_wire.proofs.ByteBits.{cases_Option}
use Rattle.dcc_wire.proofs.OutcomeLemmas.{outcome_of-more, outcome_of-push, outcome_of-long, ones_left_le}
use Rattle.dcc_wire.proofs.OutcomesAt.{seen_at}

ones_before_le : (halves : List Half) → ones_before halves ≤ length halves
unfolding ones_before
ones_before_le (One ∷ halves) = omega (arith, ones_before_le halves)
ones_before_le halves = omega arith

-- no start place among the halves that were used, nor right behind them
not_start : (halves : List Half) (places : List ℕ) (place : ℕ) → place < used_up halves places + 20
    → is_start halves places place ≡ false
unfolding is_start ones_at_end
not_start halves places place h =
    let front = drop (used_up halves places) (take place halves) in
    and_right _ _ (lt-leb 20 (ones_before (reverse front))
    (omega (arith, ones_before_le, length-reverse {A = Half}, length-drop {A = Half}, length-take {A = Half})))

-- an unfinished body uses all halves
used_up_open : (halves : List Half) (start : ℕ) (earlier : List ℕ) → start ≤ length halves
    → outcome_of (drop start halves) ≡ None → used_up halves (start ∷ earlier) ≡ length halves
unfolding used_up
used_up_open halves start earlier within e = rw e (omega (arith, length-drop start halves))

-- start places below a place, of which all but the last have come to an outcome

Settled : List Half → List ℕ → Type 0
Settled halves [] = Unit {0}
Settled halves (start ∷ earlier) = (p : ℕ × Seen) × (outcome_of (drop start halves) ≡ Some p) × Settled halves earlier

Told : List Half → ℕ → List ℕ → Type 0
Told halves place [] = Unit {0}
Told halves place (start ∷ earlier) = (start < place) × Settled halves earlier

-- where a start place follows, the last one before it has come to an outcome
told_next : (halves : List Half) (places : List ℕ) (place : ℕ) → place ≤ length halves → Told halves place places
    → (b : Bool) → is_start halves places place ≡ b → Told halves (suc place) (cond b (place ∷ places) places)
unfolding Told Settled
told_next halves [] place within told true h = (omega arith, tt)
told_next halves [] place within told false h = tt
told_next halves (start ∷ earlier) place within told false h = (omega (arith, told.0), told.1)
told_next halves (start ∷ earlier) place within told true h = elim (cases_Option (outcome_of (drop start halves))) [
  | inl none ↦
      let all = used_up_open halves start earlier (omega (arith, told.0, within)) none in
      absurd (false≢true (sym (not_start halves (start ∷ earlier) place (omega (arith, all, within))) ∙ h))
  | inr some ↦ (omega arith, (some.0, some.1, told.1))
]

told : (halves : List Half) (place : ℕ) → place ≤ length halves → Told halves place (starts_below halves place)
unfolding starts_below Told
told halves zero within = tt
told halves (suc place) within =
    told_next halves (starts_below halves place) place (omega (arith, within))
    (told halves place (omega (arith, within)))
    _ refl

-- what one half more leaves as it was

module _ (halves : List Half) (half : Half) where
  abbrev longer : List Half
  longer = halves ++ half ∷ []

  -- an outcome that has come
  settled : (start : ℕ) (p : ℕ × Seen) → outcome_of (drop start halves) ≡ Some p → outcome_of (drop start longer)
      ≡ Some p
  settled start p e =
      let within : start ≤ length halves =
      omega (arith, outcome_of-long (drop start halves) p e, length-drop start halves) in
      rw (drop-append-le start halves (half ∷ []) within) (outcome_of-more (drop start halves) (half ∷ []) p e)

  settled_used_up : (start : ℕ) (earlier : List ℕ) (p : ℕ × Seen) → outcome_of (drop start halves) ≡ Some p
      → used_up longer (start ∷ earlier) ≡ used_up halves (start ∷ earlier)
  unfolding used_up
  settled_used_up start earlier p e = rw (settled start p e, e) refl

  -- a body that was unfinished still uses all halves, but for two
  open_used_up : (start : ℕ) (earlier : List ℕ) → start ≤ length halves → outcome_of (drop start halves) ≡ None
      → length halves ≤ used_up longer (start ∷ earlier) + 1
  unfolding used_up
  open_used_up start earlier within e =
      let len = length-drop start halves in
      rw (drop-append-le start halves (half ∷ []) within) (elim (outcome_of-push (drop start halves) half e) [
        | inl none ↦ rw none (omega (arith, length-append (drop start halves) (half ∷ []), len))
        | inr ends ↦ rw ends.is (omega (arith, ones_left_le ends.outcome, len))
      ])

  same_start : (places : List ℕ) (place : ℕ) → place < length halves → used_up longer places ≡ used_up halves places
      → is_start longer places place ≡ is_start halves places place
  unfolding is_start
  same_start places place within e =
      rw (get_or-append halves (half ∷ []) Bad place within, take-append-le place halves (half ∷ []) (omega arith), e)

  is_start-longer : (places : List ℕ) (place : ℕ) → place < length halves → Told halves place places
      → is_start longer places place ≡ is_start halves places place
  unfolding Told used_up
  is_start-longer [] place within told = same_start [] place within refl
  is_start-longer (start ∷ earlier) place within told = elim (cases_Option (outcome_of (drop start halves))) [
    | inl none ↦
        let fits : start ≤ length halves = omega (arith, within, told.0) in
        not_start longer (start ∷ earlier) place (omega (arith, open_used_up start earlier fits none, within))
        ∙ sym (not_start halves (start ∷ earlier) place
        (omega (arith, used_up_open halves start earlier fits none, within)))
    | inr some ↦ same_start (start ∷ earlier) place within (settled_used_up start earlier some.0 some.1)
  ]

  -- the start places stay
  starts_below-longer : (place : ℕ) → place ≤ length halves → starts_below longer place ≡ starts_below halves place
  unfolding starts_below
  starts_below-longer zero within = refl
  starts_below-longer (suc place) within =
      let before : place ≤ length halves = omega (arith, within) in
      rw (
        starts_below-longer place before,
        is_start-longer (starts_below halves place) place within
            (told halves place before),
      )

  -- and the outcomes that have come
  settled_outcomes : (places : List ℕ) → Settled halves places → outcomes_at longer places ≡ outcomes_at halves places
  unfolding Settled outcomes_at outcome_at
  settled_outcomes [] all = refl
  settled_outcomes (start ∷ earlier) all = rw (settled_outcomes earlier all.2, settled start all.0 all.1, all.1) refl

  -- the new place is a start place or not
  starts_longer : starts longer ≡ cond (is_start longer (starts halves) (length halves)) (length halves ∷ starts halves)
      (starts halves)
  unfolding starts_below
  starts_longer =
      rw (length-append halves (half ∷ []), add-one, starts_below-longer (length halves) (omega arith))

-- one step

record Step (halves : List Half) (half : Half) (old new : List ℕ) : Type 0 where
  open_part : rest_at (halves ++ half ∷ []) new ≡ rest_after (rest_at halves old) half
  outcomes : outcomes_at (halves ++ half ∷ []) new ≡ outcomes_at halves old
      ++ report_at (length halves) (answer_to (rest_at halves old) half)

pub reported_something : (place : ℕ) (outcome : Seen) → outcome ≢ Nothing → report_at place outcome ≡ (place, outcome)
    ∷ []
unfolding report_at
reported_something place outcome something = grind arith

-- an outcome makes what is seen longer
pub report_shows : (so_far : List (ℕ × Seen)) (place : ℕ) (answer : Seen) → answer ≢ Nothing
    → so_far ++ report_at place answer ≢ so_far
report_shows so_far place answer something e =
    let longer = rw (reported_something place answer something) at (ap length e) in
    omega (arith, longer, length-append so_far ((place, answer) ∷ []))

-- an unfinished body goes on, or comes to an outcome
body_step : (halves : List Half) (half : Half) (start : ℕ) (earlier : List ℕ) → start ≤ length halves
    → Settled halves earlier → outcome_of (drop start halves) ≡ None
    → Step halves half (start ∷ earlier) (start ∷ earlier)
unfolding rest_after answer_to left_of answer_of report_at hunting used_up rest_at outcomes_at outcome_at
body_step halves half start earlier within all e =
    let next = drop-append-le start halves (half ∷ []) within in
    let same = settled_outcomes halves half earlier all in
    elim (outcome_of-push (drop start halves) half e) [
      | inl none ↦ record {
        open_part = rw (next, e, none) refl;
        outcomes = rw (same, next, e, none) (sym (append-nil (outcomes_at halves earlier ++ [])));
      }
      | inr ends ↦
          let place : start + (length (drop start halves) + 1) - 1 ≡ length halves =
          omega (arith, length-drop start halves, within) in
          record {
            open_part = rw (← drop-drop, next, e, ends.is, ends.left)
                (ap Hunting (omega (arith, ones_left_le ends.outcome)));
            outcomes = rw (
              same,
              next,
              e,
              ends.is,
              place,
              reported_something (length halves) ends.outcome
                  ends.something,
            )
                (ap (λ l. l ++ (length halves, ends.outcome) ∷ []) (sym (append-nil (outcomes_at halves earlier))));
          }
    ]

-- between bodies ones are counted, and a zero behind 20 of them begins a body

counts : (half : Half) (before : List Half) → (is_zero half && leb 20 (ones_before before)) ≡ false
    → Hunting (min 20 (ones_before (half ∷ before))) ≡ rest_after (Hunting (min 20 (ones_before before))) half
unfolding ones_before rest_after
counts half before h = grind (arith, nat_tests)

begins : (half : Half) (ones : ℕ) → (is_zero half && leb 20 ones) ≡ true
    → (outcome_of (half ∷ []) ≡ None) × (rest_after (Hunting (min 20 ones)) half ≡ InBody (half ∷ []))
unfolding rest_after outcome_of bits_in behind_bits bytes_in by_halves
begins half ones h = grind (arith, nat_tests)

record Quiet (halves : List Half) (half : Half) (places : List ℕ) : Type 0 where
  used_stays : used_up (halves ++ half ∷ []) places ≡ used_up halves places
  used_within : used_up halves places ≤ length halves
  hunts : rest_at halves places ≡ hunting halves places
  goes_on : rest_at (halves ++ half ∷ []) places ≡ hunting (halves ++ half ∷ []) places
  outcomes_stay : outcomes_at (halves ++ half ∷ []) places ≡ outcomes_at halves places

module _ (halves : List Half) (half : Half) (places : List ℕ) (q : Quiet halves half places) where
  abbrev before : List Half
  before = reverse (drop (used_up halves places) halves)

  starts_here : is_start (halves ++ half ∷ []) places (length halves) ≡ (is_zero half && leb 20 (ones_before before))
  unfolding is_start ones_at_end
  starts_here = rw (get_or-append_seam halves half [] Bad, take-append_seam halves (half ∷ []), q.used_stays)

  quiet_step : Step halves half places
      (cond (is_start (halves ++ half ∷ []) places (length halves)) (length halves ∷ places) places)
  unfolding hunting ones_at_end rest_at outcomes_at outcome_at answer_to report_at
  quiet_step =
      let nothing = q.outcomes_stay ∙ sym (append-nil (outcomes_at halves places)) in
      elim (cases_Bool (is_zero half && leb 20 (ones_before before))) [
        | inl body ↦
            let b = begins half (ones_before before) body in rw (starts_here ∙ body) (record {
              open_part = rw (drop-append_seam, b.0, q.hunts) (sym b.1);
              outcomes = rw (drop-append_seam, b.0, q.hunts) (append-nil _ ∙ nothing);
            })
        | inr hunts_on ↦
            let longer = drop-append-le (used_up halves places) halves (half ∷ []) q.used_within in
            rw (starts_here ∙ hunts_on) (record {
              open_part = q.goes_on ∙ rw (q.used_stays, longer, reverse-append, q.hunts) (counts half before hunts_on);
              outcomes = rw q.hunts nothing;
            })
      ]

step_by : (halves : List Half) (half : Half) (places : List ℕ) → Told halves (length halves) places
    → Step halves half places
    (cond (is_start (halves ++ half ∷ []) places (length halves)) (length halves ∷ places) places)
unfolding Told Settled used_up rest_at outcomes_at
step_by halves half [] told = quiet_step halves half []
    (record { used_stays = refl; used_within = omega arith; hunts = refl; goes_on = refl; outcomes_stay = refl })
step_by halves half (start ∷ earlier) (below, all) = elim (cases_Option (outcome_of (drop start halves))) [
  | inl none ↦
      let within : start ≤ length halves = omega (arith, below) in
      rw (not_start (halves ++ half ∷ []) (start ∷ earlier) (length halves)
      (omega (arith, open_used_up halves half start earlier within none)))
      (body_step halves half start earlier within all none)
  | inr some ↦
      let long = outcome_of-long (drop start halves) some.0 some.1 in
      quiet_step halves half (start ∷ earlier) (record {
        used_stays = settled_used_up halves half start earlier some.0 some.1;
        used_within = rw some.1 (omega (arith, length-drop start halves, long.1, below));
        hunts = rw some.1;
        goes_on = rw (settled halves half start some.0 some.1);
        outcomes_stay = settled_outcomes halves half (start ∷ earlier) (some.0, some.1, all);
      })
]

step : (halves : List Half) (half : Half) → Step halves half (starts halves) (starts (halves ++ half ∷ []))
step halves half =
    rw (starts_longer halves half) (step_by halves half (starts halves) (told halves (length halves) (omega arith)))

-- in durations

pub rest-push : (durations : List ℕ) (us : ℕ) → rest (durations ++ us ∷ []) ≡ rest_after (rest durations) (class_of us)
unfolding rest
rest-push durations us =
    rw (map-append class_of durations (us ∷ [])) (step (map class_of durations) (class_of us)).open_part

pub seen-push : (durations : List ℕ) (us : ℕ)
    → seen (durations ++ us ∷ []) ≡ seen durations
    ++ report_at (length durations) (answer_to (rest durations) (class_of us))
unfolding rest
seen-push durations us =
    rw (seen_at, seen_at, map-append class_of durations (us ∷ []))
    ((step (map class_of durations) (class_of us)).outcomes ∙ rw length-map)
