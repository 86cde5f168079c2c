-- A framer that begins with the first half-bit of a body.
use Rattle.std.proofs.Common.{◌≡◌, ◌≢◌, ℕ, suc, ◌+◌, ◌<◌, List, [], ◌∷◌, ◌++◌, length, take, drop, get_or, map}
use Rattle.std.proofs.Common.{replicate}
use Rattle.std.proofs.Common.{None, refl, sym, ap, ◌∙◌, arith, add-one, inl, inr}
use Rattle.std.proofs.Math.Seq.{take-suc}
use Rattle.std.proofs.lemmas.List.{append_cancel_left, take_all, take-append-drop, map-append}
use Rattle.dcc_wire.specs.declared.half.Half.{Half}
use Rattle.dcc_wire.specs.declared.half.Half.TheVariants.{Zero}
use Rattle.dcc_wire.specs.declared.seen.Seen.{Seen}
use Rattle.dcc_wire.specs.declared.seen.Seen.TheVariants.{Nothing}
use Rattle.dcc_wire.specs.Half.{class_of}
use Rattle.dcc_wire.specs.Framing.{Rest, Hunting, InBody, rest, seen, StandsFor, report_at, starts_below, ones_before}
use Rattle.dcc_wire.specs.Framing.{ones_at_end, rest_at, hunting, used_up, is_start}
use Rattle.dcc_wire.specs.Outcomes.{outcome_of, bits_in, bytes_in, by_halves}
use Rattle.dcc_wire.specs.Inner.Steps.{answer_of, answer_to, left_of, rest_after}
use Rattle.dcc_wire.specs.Inner.OutcomeParts.{behind_bits}
use Rattle.dcc_wire.proofs.ByteBits.{cases_Option}
use Rattle.dcc_wire.proofs.FramingLemmas.{rest-push, seen-push}
use Rattle.dcc_wire.proofs.OutcomeLemmas.{outcome_of-more, outcome_of-something}
use Rattle.dcc_lost.specs.Nearest.{nearest_class}

-- what a framer is after a half-bit, and what it answers

report_same : (place : ℕ) (a b : Seen) → report_at place a ≡ report_at place b → a ≡ b
unfolding report_at
report_same place a b e = grind arith

pub record Takes (old : Rest) (us : ℕ) (answer : Seen) (new : Rest) : Type 0 where
  pub after : new ≡ rest_after old (class_of us)
  pub answered : answer ≡ answer_to old (class_of us)

pub takes : (old : Rest) (us : ℕ) (answer : Seen) (new : Rest) → ((durations : List ℕ) × StandsFor old durations)
    → ((durations : List ℕ) → StandsFor old durations → StandsFor new (durations ++ us ∷ []))
    → ((durations : List ℕ) → StandsFor old durations
    → seen (durations ++ us ∷ []) ≡ seen durations ++ report_at (length durations) answer)
    → Takes old us answer new
unfolding StandsFor
takes old us answer new (durations, is) stands sees = record {
  after = stands durations is ∙ rest-push durations us ∙ ap (λ r. rest_after r (class_of us)) (sym is);
  answered =
      report_same (length durations) answer (answer_to old (class_of us))
      (append_cancel_left (seen durations) _ _ (sym (sees durations is) ∙ seen-push durations us
      ∙ ap (λ r. seen durations ++ report_at (length durations) (answer_to r (class_of us))) (sym is)));
}

-- after a preamble of 20 half-bits

pub twenty_ones : (new : Rest) → StandsFor new ([] ++ replicate 20 58) → new ≡ Hunting 20
unfolding StandsFor rest rest_at hunting starts_below used_up ones_at_end ones_before is_start
twenty_ones new stands = stands

-- the framer after these half-bits of an unfinished body
abbrev pub body_rest : List Half → Rest
body_rest [] = Hunting 20
body_rest (half ∷ halves) = InBody (half ∷ halves)

pub record IsAt (framer : Rest) (front : List Half) : Type 0 where
  pub state : framer ≡ body_rest front
  pub unfinished : outcome_of front ≡ None

pub at_first : (framer : Rest) → framer ≡ Hunting 20 → IsAt framer []
unfolding outcome_of bits_in behind_bits bytes_in by_halves
at_first framer e = record { state = e; unfinished = refl }

body_rest-push : (front : List Half) (half : Half) → body_rest (front ++ half ∷ []) ≡ InBody (front ++ half ∷ [])
body_rest-push [] half = refl
body_rest-push (first ∷ front) half = refl

record Goes (framer : Rest) (front : List Half) (half : Half) (answer : Seen) : Type 0 where
  answer_is : answer ≡ answer_of (outcome_of (front ++ half ∷ []))
  on : answer ≡ Nothing → IsAt framer (front ++ half ∷ [])

goes : (old new : Rest) (front : List Half) (half : Half) (answer : Seen) → IsAt old front
    → (front ≡ [] → half ≡ Zero) → new ≡ rest_after old half → answer ≡ answer_to old half
    → Goes new front half answer
unfolding rest_after answer_to outcome_of bits_in behind_bits bytes_in by_halves left_of answer_of
goes old new [] half answer at first after answered =
    let z : half ≡ Zero = first refl in
    let none : answer_to old half ≡ Nothing = rw at.state in
    let same : answer_of (outcome_of ([] ++ half ∷ [])) ≡ Nothing = rw z in
    let begins : rest_after old half ≡ InBody (half ∷ []) = rw (at.state, z) in
    record {
      answer_is = answered ∙ none ∙ sym same;
      on = λ e. record { state = after ∙ begins; unfinished = rw z };
    }
goes old new (one ∷ front) half answer at first after answered =
    let is : answer ≡ answer_of (outcome_of ((one ∷ front) ++ half ∷ [])) = answered ∙ rw at.state in
    record {
      answer_is = is;
      on = λ e.
          let none = outcome_of-something ((one ∷ front) ++ half ∷ []) (sym is ∙ e) in
          record { state = after ∙ rw at.state (rw none); unfinished = none };
    }

-- in the nearest classes of durations

first_is : (halves : List ℕ) (i : ℕ) → nearest_class (get_or halves 0 0) ≡ Zero → i < length halves
    → map nearest_class (take i halves) ≡ [] → nearest_class (get_or halves i 0) ≡ Zero
first_is halves ℕ.zero zero within none = zero
first_is [] (suc i) zero within none = zero
first_is (us ∷ halves) (suc i) zero within none = cc

pub front_more : (halves : List ℕ) (i : ℕ) → i < length halves
    → map nearest_class (take i halves) ++ nearest_class (get_or halves i 0) ∷ []
    ≡ map nearest_class (take (i + 1) halves)
front_more halves i within =
    sym (rw (add-one, take-suc halves i 0 within) (map-append nearest_class (take i halves) (get_or halves i 0 ∷ [])))

-- a half-bit of a list that begins with a zero
pub record Reads (halves : List ℕ) (i : ℕ) (answer : Seen) (new : Rest) : Type 0 where
  pub goes_on : answer ≡ Nothing → IsAt new (map nearest_class (take (i + 1) halves))
  pub ends : answer ≢ Nothing → answer ≡ answer_of (outcome_of (map nearest_class halves))

shown_early : (front more : List Half) → answer_of (outcome_of front) ≢ Nothing
    → answer_of (outcome_of front) ≡ answer_of (outcome_of (front ++ more))
unfolding answer_of
shown_early front more something = elim (cases_Option (outcome_of front)) [
  | inl none ↦ absurd (something (rw none))
  | inr some ↦ rw (some.1, outcome_of-more front more some.0 some.1)
]

pub reads : (halves : List ℕ) (i us : ℕ) (old new : Rest) (answer : Seen) → i < length halves
    → nearest_class (get_or halves 0 0) ≡ Zero → IsAt old (map nearest_class (take i halves))
    → class_of us ≡ nearest_class (get_or halves i 0) → Takes old us answer new → Reads halves i answer new
reads halves i us old new answer within zero at class taken =
    let front : List Half = map nearest_class (take i halves) in
    let half : Half = nearest_class (get_or halves i 0) in
    let step = goes old new front half answer at (first_is halves i zero within)
    (taken.after ∙ ap (rest_after old) class) (taken.answered ∙ ap (answer_to old) class) in
    let more = front_more halves i within in
    let whole : map nearest_class (take (i + 1) halves) ++ map nearest_class (drop (i + 1) halves)
    ≡ map nearest_class halves =
    sym (map-append nearest_class (take (i + 1) halves) (drop (i + 1) halves))
    ∙ ap (map nearest_class) (take-append-drop (i + 1) halves) in
    let is : answer ≡ answer_of (outcome_of (map nearest_class (take (i + 1) halves))) =
    step.answer_is ∙ ap (λ l. answer_of (outcome_of l)) more in
    record {
      goes_on = λ e. rw (← more) (step.on e);
      ends = λ something.
          is ∙ shown_early (map nearest_class (take (i + 1) halves)) (map nearest_class (drop (i + 1) halves))
          (λ nothing. something (is ∙ nothing))
          ∙ ap (λ l. answer_of (outcome_of l)) whole;
    }

pub reads_all : (halves : List ℕ) (i : ℕ) (framer : Rest) → length halves ≡ i
    → IsAt framer (map nearest_class (take i halves)) → Nothing ≡ answer_of (outcome_of (map nearest_class halves))
unfolding answer_of
reads_all halves i framer all at =
    let whole = take_all i halves (omega (arith, all)) in
    let none = rw whole at at.unfinished in
    rw none
