-- Many halves of one duration.
use Rattle.std.proofs.Common.{◌≡◌, ℕ, suc, zero, ◌+◌, ◌-◌, ◌<◌, ◌≤◌, List, [], ◌∷◌, ◌++◌, length, length-append}
use Rattle.std.proofs.Common.{replicate, refl, sym, ap, ◌∙◌, arith, append_assoc, append-nil, min, ◌≢◌}
use Rattle.std.proofs.Math.ListN.{length-replicate, replicate-append-replicate}
use Rattle.std.proofs.lemmas.Bool.Decides.{nat_tests}
use Rattle.std.proofs.lemmas.List.{nil_from_length}
use Rattle.dcc_wire.specs.declared.half.Half.{Half}
use Rattle.dcc_wire.specs.declared.half.Half.TheVariants.{One}
use Rattle.dcc_wire.specs.declared.seen.Seen.{Seen}
use Rattle.dcc_wire.specs.declared.seen.Seen.TheVariants.{Nothing}
use Rattle.dcc_wire.specs.Framing.{Rest, Hunting, InBody, rest, seen, report_at, StandsFor}
use Rattle.dcc_wire.specs.Half.{class_of}
use Rattle.dcc_wire.specs.Inner.Steps.{rest_after, answer_to}
use Rattle.dcc_wire.specs.Outcomes.{ones_left}
use Rattle.dcc_wire.specs.Runs.{IsQuietFor, PushesRun, rest_after_run, ones_after, IsQuiet, still_ones}
use Rattle.dcc_wire.proofs.FramingLemmas.{rest-push, seen-push}
use Rattle.dcc_wire.proofs.HistoryLemmas.{HasHistory, microseconds, class_of-microseconds}
use Rattle.dcc_wire.proofs.OutcomeLemmas.{ones_left_le}
use Rattle.dcc_wire.proofs.SeenLemmas.{seen-grows}

-- how many ones are counted behind some of them

pub ones_after_one : (ones n : ℕ) → 0 < n → ones_after ones One n ≡ min 20 (ones + n)
unfolding ones_after
ones_after_one ones n some = grind arith

-- one of them leaves a count that stays quiet
module _ (half : Half) (ones : ℕ) where
  goes_on : IsQuiet ones half → rest_after (Hunting ones) half ≡ Hunting (ones_after ones half 1)
  unfolding rest_after ones_after
  goes_on quiet = grind (arith, nat_tests)

  stays_quiet : IsQuiet ones half → IsQuiet (ones_after ones half 1) half
  unfolding ones_after
  stays_quiet quiet = grind arith

  counts_on : (n : ℕ) → ones_after (ones_after ones half 1) half n ≡ ones_after ones half (suc n)
  unfolding ones_after
  counts_on n = grind arith

pub replicate_more : (n us : ℕ) (durations : List ℕ)
    → durations ++ replicate (suc n) us ≡ (durations ++ us ∷ []) ++ replicate n us
replicate_more n us durations = sym (append_assoc durations (us ∷ []) (replicate n us))

pub record Skips (durations : List ℕ) (us n ones : ℕ) : Type 0 where
  pub open_part : rest (durations ++ replicate n us) ≡ Hunting (ones_after ones (class_of us) n)
  pub outcomes : seen (durations ++ replicate n us) ≡ seen durations

pub skips : (n us : ℕ) (durations : List ℕ) (ones : ℕ) → IsQuiet ones (class_of us) → rest durations ≡ Hunting ones
    → Skips durations us n ones
unfolding ones_after answer_to report_at
skips zero us durations ones quiet hunts = record { open_part = rw append-nil hunts; outcomes = rw append-nil }
skips (suc n) us durations ones quiet hunts =
    let half = class_of us in
    let ih = skips n us (durations ++ us ∷ []) (ones_after ones half 1) (stays_quiet half ones quiet)
    (rest-push durations us ∙ rw hunts (goes_on half ones quiet)) in
    record {
      open_part = rw replicate_more (ih.open_part ∙ ap Hunting (counts_on half ones n));
      outcomes = rw replicate_more (ih.outcomes ∙ seen-push durations us ∙ rw hunts (append-nil (seen durations)));
    }

-- a count of ones that stays the same
still_quiet : (half : Half) → IsQuiet (still_ones half) half
unfolding still_ones
still_quiet half = grind arith

still_after : (half : Half) (n : ℕ) → ones_after (still_ones half) half n ≡ still_ones half
unfolding still_ones ones_after
still_after half n = grind arith

pub skips_still : (n us : ℕ) (durations : List ℕ) → rest durations ≡ Hunting (still_ones (class_of us))
    → (rest (durations ++ replicate n us) ≡ Hunting (still_ones (class_of us)))
    × (seen (durations ++ replicate n us) ≡ seen durations)
skips_still n us durations hunts =
    let half = class_of us in
    let w = skips n us durations (still_ones half) (still_quiet half) hunts in
    (w.open_part ∙ ap Hunting (still_after half n), w.outcomes)

-- halves that show nothing are told by their count alone
pub skip_history : (ones : ℕ) (half : Half) (n : ℕ) → IsQuiet ones half → HasHistory (Hunting ones)
    → HasHistory (Hunting (ones_after ones half n))
unfolding StandsFor
skip_history ones half n quiet history =
    let us = microseconds half in
    let class = class_of-microseconds half in
    let w = skips n us history.0 ones (rw class quiet) (sym history.1) in
    (history.0 ++ replicate n us, rw (w.open_part, class))

-- a run so far, which showed nothing

pub record RunsTo (old new : Rest) (us i : ℕ) : Type 0 where
  pub stands : (durations : List ℕ) → StandsFor old durations → StandsFor new (durations ++ replicate i us)
  pub quiet : (durations : List ℕ) → StandsFor old durations → seen (durations ++ replicate i us) ≡ seen durations

run_of_both : (durations : List ℕ) (us i k : ℕ)
    → durations ++ replicate (i + k) us ≡ (durations ++ replicate i us) ++ replicate k us
run_of_both durations us i k = rw (append_assoc, replicate-append-replicate)

-- what a piece of a run says
abbrev Stands : Rest → Rest → ℕ → ℕ → Type 0
Stands mid new us k = (durations : List ℕ) → StandsFor mid durations → StandsFor new (durations ++ replicate k us)

abbrev Sees : Rest → ℕ → ℕ → Seen → Type 0
Sees mid us k shown =
    (durations : List ℕ) → StandsFor mid durations
    → seen (durations ++ replicate k us) ≡ seen durations ++ report_at (length durations + k - 1) shown

abbrev SeesNothing : Rest → ℕ → ℕ → Type 0
SeesNothing mid us k =
    (durations : List ℕ) → StandsFor mid durations → seen (durations ++ replicate k us) ≡ seen durations

module _ {old mid : Rest} {us i : ℕ} (k : ℕ) (new : Rest) (shown : Seen) (run : RunsTo old mid us i) (some : 1 ≤ k)
    (stands : Stands mid new us k) (sees : Sees mid us k shown) where
  run_stands : Stands old new us (i + k)
  run_stands durations h = rw run_of_both (stands (durations ++ replicate i us) (run.stands durations h))

  run_sees : Sees old us (i + k) shown
  run_sees durations h =
      let place : (length durations + i) + k - 1 ≡ length durations + (i + k) - 1 = omega (arith, some) in
      rw run_of_both (sees (durations ++ replicate i us) (run.stands durations h)
      ∙ rw (run.quiet durations h, length-append, length-replicate, place))

  pub run_more : shown ≡ Nothing → RunsTo old new us (i + k)
  unfolding report_at
  run_more nothing = record {
    stands = run_stands;
    quiet = λ durations h. run_sees durations h ∙ rw nothing (append-nil (seen durations));
  }

-- the rest of a run is skipped

pub run_on : (durations : List ℕ) (us i n : ℕ) → i ≤ n
    → (durations ++ replicate i us) ++ replicate (n - i) us ≡ durations ++ replicate n us
run_on durations us i n h =
    let all : i + (n - i) ≡ n = omega (arith, h) in sym (run_of_both durations us i (n - i)) ∙ rw all

skipped : (old mid : Rest) {new : Rest} (us i n : ℕ) → i ≤ n → IsQuietFor mid (class_of us)
    → new ≡ rest_after_run mid (class_of us) (n - i) → Stands old mid us i → (durations : List ℕ)
    → StandsFor old durations → StandsFor new (durations ++ replicate n us)
    × (seen (durations ++ replicate n us) ≡ seen (durations ++ replicate i us))
unfolding StandsFor rest_after_run
skipped old (Hunting ones) us i n within quiet e stands durations h =
    let w = skips (n - i) us (durations ++ replicate i us) ones quiet (sym (stands durations h)) in
    rw (← run_on durations us i n within) (e ∙ sym w.open_part, w.outcomes)
skipped old (InBody halves) us i n within quiet e stands durations h = absurd quiet

pub quiet_rest : {old mid new : Rest} {us i : ℕ} (n : ℕ) → RunsTo old mid us i → i ≤ n → IsQuietFor mid (class_of us)
    → new ≡ rest_after_run mid (class_of us) (n - i) → RunsTo old new us n
quiet_rest {old} {mid} {us = us} {i} n run within quiet e =
    let rest_of_run = skipped old mid us i n within quiet e run.stands in record {
      stands = λ durations h. (rest_of_run durations h).0;
      quiet = λ durations h. (rest_of_run durations h).1 ∙ run.quiet durations h;
    }

-- a run that shows nothing shows nothing before its end

quiet_before : (durations : List ℕ) (us i n : ℕ) → i ≤ n → seen (durations ++ replicate n us) ≡ seen durations
    → seen (durations ++ replicate i us) ≡ seen durations
quiet_before durations us i n within e =
    let front = seen-grows durations (replicate i us) in
    let all = seen-grows (durations ++ replicate i us) (replicate (n - i) us) in
    let whole : seen durations ≡ (seen durations ++ front.0) ++ all.0 =
    sym e ∙ ap seen (sym (run_on durations us i n within)) ∙ all.1 ∙ rw front.1 in
    let none : front.0 ≡ [] =
    nil_from_length front.0 (omega (arith, ap length whole, length-append {A = ℕ × Seen})) in
    rw none at front.1 ∙ append-nil (seen durations)

pub quiet_run : {old new : Rest} {us n : ℕ} → RunsTo old new us n
    → PushesRun old us n (record { seen = Nothing; at = n }) new
unfolding report_at
quiet_run {us = us} {n} run = record {
  stands = run.stands;
  sees = λ durations h. run.quiet durations h ∙ sym (append-nil (seen durations));
  before = λ durations h. quiet_before durations us (n - 1) n (omega arith) (run.quiet durations h);
  nothing = λ _. refl;
  something = λ some. absurd (some refl);
  hunts = λ some. absurd (some refl);
}

-- what is left after an outcome is quiet
pub quiet_after : (left : Rest) (shown : Seen) (half : Half) → left ≡ Hunting (ones_left shown) → IsQuietFor left half
quiet_after left shown half e = let few = ones_left_le shown in rw e (grind arith)

-- a run whose next piece shows something, and the rest of which is skipped
pub shown_run : {old mid new : Rest} {us i : ℕ} (left : Rest) (k n : ℕ) (shown : Seen) → RunsTo old mid us i → 1 ≤ k
    → i + k ≤ n → Stands mid left us k → Sees mid us k shown → SeesNothing mid us (k - 1)
    → left ≡ Hunting (ones_left shown) → new ≡ rest_after_run left (class_of us) (n - (i + k)) → shown ≢ Nothing
    → PushesRun old us n (record { seen = shown; at = i + k }) new
shown_run {old} {mid} {us = us} {i} left k n shown run some within stands sees before hunts e something =
    let behind = skipped old left us (i + k) n within (quiet_after left shown (class_of us) hunts) e
    (run_stands k left shown run some stands sees) in
    let all : i + k - 1 ≡ i + (k - 1) = omega (arith, some) in
    record {
      stands = λ durations h. (behind durations h).0;
      sees = λ durations h. (behind durations h).1 ∙ run_sees k left shown run some stands sees durations h;
      before = λ durations h.
          rw (all, run_of_both) (before (durations ++ replicate i us) (run.stands durations h) ∙ run.quiet durations h);
      nothing = λ none. absurd (something none);
      something = λ _. omega (arith, some, within);
      hunts = λ _. rw (← hunts) e;
    }

-- two halves of one duration, of which the first shows nothing

one_more : (old : Rest) (us : ℕ) {half : Half} → half ≡ class_of us → (durations : List ℕ) → old ≡ rest durations
    → (rest_after old half ≡ rest (durations ++ us ∷ []))
    × (seen (durations ++ us ∷ []) ≡ seen durations ++ report_at (length durations) (answer_to old half))
one_more old us class durations held = (rw (rest-push, ← held, ← class), seen-push durations us ∙ rw (← held, ← class))

pub two_more : (old : Rest) {new : Rest} (us : ℕ) {half : Half} {shown : Seen} → half ≡ class_of us
    → answer_to old half ≡ Nothing → new ≡ rest_after (rest_after old half) half
    → shown ≡ answer_to (rest_after old half) half → Stands old new us 2 × Sees old us 2 shown × SeesNothing old us 1
unfolding StandsFor report_at
two_more old us {half} class first after answer =
    let one = one_more old us class in
    let two = λ (durations : List ℕ) (h : old ≡ rest durations). one_more _ us class (durations ++ us ∷ [])
    (one durations h).0 in
    let before = λ (durations : List ℕ) (h : old ≡ rest durations).
    (one durations h).1 ∙ rw first (append-nil (seen durations)) in (
      (λ durations h. rw (← append_assoc durations (us ∷ []) (us ∷ [])) (after ∙ (two durations h).0)),
      (λ durations h.
          let place : length (durations ++ us ∷ []) ≡ length durations + 2 - 1 =
          omega (arith, length-append durations (us ∷ [])) in
          rw (← append_assoc durations (us ∷ []) (us ∷ []))
          ((two durations h).1 ∙ rw (before durations h, place, ← answer))),
      before,
    )
