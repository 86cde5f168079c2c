-- A framer that takes the half-bits of a run one by one.
use Rattle.std.proofs.Common.{◌≡◌, ◌≢◌, ◌≤◌, ℕ, zero, suc, ◌+◌, ◌-◌, List, [], ◌∷◌, ◌++◌, length, replicate}
use Rattle.std.proofs.Common.{refl, sym, ap, subst, ◌∙◌, arith, append_assoc, append-nil, length-append}
use Rattle.std.proofs.Math.ListN.{length-replicate, replicate-append-replicate}
use Rattle.dcc_wire.specs.declared.half.Half.{Half}
use Rattle.dcc_wire.specs.declared.seen.Seen.{Seen}
use Rattle.dcc_wire.specs.declared.seen.Fault.TheVariants.{BadHalf, SplitBit, TooShort, TooLong, ErrorByte}
use Rattle.dcc_wire.specs.declared.seen.Seen.TheVariants.{Nothing, Packet, Refused}
use Rattle.dcc_wire.specs.Framing.{Rest, Hunting, StandsFor, rest, seen, report_at}
use Rattle.dcc_wire.specs.Half.{class_of}
use Rattle.dcc_wire.specs.Outcomes.{ones_left}
use Rattle.dcc_wire.specs.Runs.{IsQuiet, ones_after, rest_after_run, still_ones}
use Rattle.dcc_wire.proofs.RunLemmas.{quiet_after, skips}
use Rattle.dcc_c.specs.declared.outcome.DccOutcome.{DccOutcome}
use Rattle.dcc_c.specs.Outcomes.{outcome_numbers, outcome_seen}

-- a framer takes `i` half-bits of `us` microseconds, and goes from state `old` to state `now`. The
-- outcome `shown` ends with half-bit `at` of these half-bits if `ended` is not 0.
pub record Takes (old now : Rest) (us i ended at : ℕ) (shown : Seen) : Type 0 where
  pub stands : (halves : List ℕ) → StandsFor old halves → StandsFor now (halves ++ replicate i us)
  pub sees : (halves : List ℕ) → StandsFor old halves
      → seen (halves ++ replicate i us) ≡ seen halves ++ report_at (length halves + at - 1) shown
  pub before : ended ≢ 0 → (halves : List ℕ) → StandsFor old halves
      → seen (halves ++ replicate (at - 1) us) ≡ seen halves
  pub something : ended ≢ 0 → (1 ≤ at) × (at ≤ i)
  pub hunts : ended ≢ 0 → now ≡ rest_after_run (Hunting (ones_left shown)) (class_of us) (i - at)

-- the number of half-bits of ones after a run of half-bits of one class that begins no body

ones_after_both : (ones : ℕ) (half : Half) (a b : ℕ)
    → ones_after (ones_after ones half a) half b ≡ ones_after ones half (a + b)
unfolding ones_after
ones_after_both ones half a b = grind arith

quiet_on : (ones : ℕ) (half : Half) (n : ℕ) → IsQuiet ones half → IsQuiet (ones_after ones half n) half
unfolding ones_after
quiet_on ones half n quiet = grind arith

still_on : (half : Half) (n : ℕ) → ones_after (still_ones half) half n ≡ still_ones half
unfolding ones_after still_ones
still_on half n = grind arith

-- the state after such a run

rest_stays : (now : Rest) (half : Half) (n : ℕ) → now ≡ Hunting (still_ones half) → now ≡ rest_after_run now half n
unfolding rest_after_run
rest_stays now half n still = rw still (ap Hunting (sym (still_on half n)))

rest_after_both : (ones : ℕ) (half : Half) (a b : ℕ)
    → rest_after_run (rest_after_run (Hunting ones) half a) half b ≡ rest_after_run (Hunting ones) half (a + b)
unfolding rest_after_run
rest_after_both ones half a b = ap Hunting (ones_after_both ones half a b)

-- a run of `i` half-bits, and then a run of `k` half-bits
run_of_both : (halves : List ℕ) (us i k : ℕ)
    → (halves ++ replicate i us) ++ replicate k us ≡ halves ++ replicate (i + k) us
run_of_both halves us i k =
    append_assoc halves (replicate i us) (replicate k us)
    ∙ ap (λ l. halves ++ l) (replicate-append-replicate i k us)

-- a framer takes `i` half-bits of a run, and then `k` half-bits that end no outcome
pub takes_quiet : {old mid new : Rest} {us i ended at : ℕ} {shown : Seen} (k n : ℕ) → i + k ≡ n
    → Takes old mid us i ended at shown
    → ((halves : List ℕ) → StandsFor mid halves → StandsFor new (halves ++ replicate k us))
    → ((halves : List ℕ) → StandsFor mid halves → seen (halves ++ replicate k us) ≡ seen halves)
    → (ended ≢ 0 → new ≡ rest_after_run mid (class_of us) k) → Takes old new us n ended at shown
takes_quiet {old} {mid} {new} {us} {i} {ended} {at} {shown} k n all so_far stands quiet after =
    let both = λ (halves : List ℕ). run_of_both halves us i k ∙ ap (λ m. halves ++ replicate m us) all in
    record {
      stands = λ halves s. subst (StandsFor new) (both halves)
          (stands (halves ++ replicate i us) (so_far.stands halves s));
      sees = λ halves s. ap seen (sym (both halves)) ∙ quiet (halves ++ replicate i us) (so_far.stands halves s)
          ∙ so_far.sees halves s;
      before = so_far.before;
      something = λ some. let w = so_far.something some in (w.0, omega (arith, w.1, all));
      hunts = λ some.
          let w = so_far.something some in
          let left : (i - at) + k ≡ n - at = omega (arith, w.1, all) in
          after some ∙ ap (λ r. rest_after_run r (class_of us) k) (so_far.hunts some)
          ∙ rest_after_both (ones_left shown) (class_of us) (i - at) k
          ∙ ap (rest_after_run (Hunting (ones_left shown)) (class_of us)) left;
    }

-- the half-bit of the run that comes after an outcome ends no outcome
one_half : {old mid : Rest} {us i ended at : ℕ} {shown : Seen} → Takes old mid us i ended at shown → ended ≢ 0
    → (halves : List ℕ) → StandsFor mid halves
    → (rest (halves ++ us ∷ []) ≡ rest_after_run mid (class_of us) 1) × (seen (halves ++ us ∷ []) ≡ seen halves)
unfolding StandsFor rest_after_run
one_half {mid = mid} {us} {i} {at = at} {shown} so_far some halves s =
    let half = class_of us in
    let ones = ones_after (ones_left shown) half (i - at) in
    let hunting : mid ≡ Hunting ones = so_far.hunts some in
    let quiet = quiet_on (ones_left shown) half (i - at) (quiet_after (Hunting (ones_left shown)) shown half refl) in
    let w = skips 1 us halves ones quiet (sym s ∙ hunting) in
    (w.open_part ∙ sym (ap (λ r. rest_after_run r half 1) hunting), w.outcomes)

-- a framer takes `i` half-bits of a run, and then a half-bit that ends no outcome
pub takes_half : {old mid new : Rest} {us i ended at : ℕ} {shown : Seen} → Takes old mid us i ended at shown
    → (halves : List ℕ) × StandsFor mid halves
    → ((halves : List ℕ) → StandsFor mid halves → StandsFor new (halves ++ us ∷ []))
    → ((halves : List ℕ) → StandsFor mid halves → seen (halves ++ us ∷ []) ≡ seen halves)
    → Takes old new us (i + 1) ended at shown
unfolding StandsFor
takes_half {i = i} so_far history stands quiet =
    takes_quiet 1 (i + 1) refl so_far stands quiet
    (λ some. stands history.0 history.1 ∙ (one_half so_far some history.0 history.1).0)

-- if the next half-bit of a run ends an outcome, no half-bit before it ended an outcome
pub takes_one_outcome : {old mid : Rest} {us i at : ℕ} {shown : Seen} (ended : ℕ) → Takes old mid us i ended at shown
    → (halves : List ℕ) × StandsFor mid halves
    → ((halves : List ℕ) → StandsFor mid halves → seen (halves ++ us ∷ []) ≢ seen halves) → ended ≡ 0
takes_one_outcome zero so_far history shows = refl
takes_one_outcome (suc ended) so_far history shows =
    let some : suc ended ≢ 0 = omega arith in
    absurd (shows history.0 history.1 (one_half so_far some history.0 history.1).1)

-- a framer takes `i` half-bits of a run, and then a half-bit that ends the outcome `shown`
pub takes_outcome : {old mid new : Rest} {us i before_ended before_at : ℕ} {before shown : Seen} (ended place : ℕ)
    → i + 1 ≡ place → Takes old mid us i before_ended before_at before → before ≡ Nothing
    → ((halves : List ℕ) → StandsFor mid halves → StandsFor new (halves ++ us ∷ []))
    → ((halves : List ℕ) → StandsFor mid halves
    → seen (halves ++ us ∷ []) ≡ seen halves ++ report_at (length halves) shown)
    → new ≡ Hunting (ones_left shown) → Takes old new us place ended place shown
unfolding report_at rest_after_run ones_after
takes_outcome {old} {mid} {new} {us} {i} {before_at = before_at} {before} {shown} ended place next so_far nothing stands
    sees hunts =
    let both = λ (halves : List ℕ). run_of_both halves us i 1 ∙ ap (λ m. halves ++ replicate m us) next in
    let quiet = λ (halves : List ℕ) (s : StandsFor old halves). so_far.sees halves s
    ∙ ap (λ seen_here. seen halves ++ report_at (length halves + before_at - 1) seen_here) nothing
    ∙ append-nil (seen halves) in
    let first : place - 1 ≡ i = omega (arith, next) in
    let none : place - place ≡ 0 = omega arith in
    record {
      stands = λ halves s. subst (StandsFor new) (both halves)
          (stands (halves ++ replicate i us) (so_far.stands halves s));
      sees = λ halves s.
          let last : length (halves ++ replicate i us) ≡ length halves + place - 1 =
          omega (arith, length-append halves (replicate i us), length-replicate i us, next) in
          ap seen (sym (both halves)) ∙ sees (halves ++ replicate i us) (so_far.stands halves s)
          ∙ ap (λ l. l ++ report_at (length (halves ++ replicate i us)) shown) (quiet halves s)
          ∙ ap (λ p. seen halves ++ report_at p shown) last;
      before = λ _ halves s. ap (λ m. seen (halves ++ replicate m us)) first ∙ quiet halves s;
      something = λ _. (omega (arith, next), omega arith);
      hunts = λ _. hunts ∙ ap (rest_after_run (Hunting (ones_left shown)) (class_of us)) (sym none);
    }

-- a framer takes `i` half-bits of a run, and the other half-bits of the run change nothing
pub takes_still : {old now : Rest} {us i ended at : ℕ} {shown : Seen} (n : ℕ) → i ≤ n
    → Takes old now us i ended at shown
    → now ≡ Hunting (still_ones (class_of us))
    → ((halves : List ℕ) (k : ℕ) → StandsFor now halves → StandsFor now (halves ++ replicate k us))
    → ((halves : List ℕ) (k : ℕ) → StandsFor now halves → seen (halves ++ replicate k us) ≡ seen halves)
    → Takes old now us n ended at shown
takes_still {now = now} {us} {i} n within so_far still stands quiet =
    let all : i + (n - i) ≡ n = omega (arith, within) in
    takes_quiet (n - i) n all so_far (λ halves s. stands halves (n - i) s) (λ halves s. quiet halves (n - i) s)
    (λ _. rest_stays now (class_of us) (n - i) still)

-- the C structure `outcome` with the half-bit `place`
abbrev at_place : ℕ → DccOutcome → DccOutcome
at_place place outcome = record { at = place; refusal = outcome.refusal; frame = outcome.frame }

numbers_at_place : (place before : ℕ) (shown : Seen)
    → at_place place (outcome_numbers before shown) ≡ outcome_numbers place shown
numbers_at_place place before Nothing = refl
numbers_at_place place before (Packet bytes) = refl
numbers_at_place place before (Refused BadHalf) = refl
numbers_at_place place before (Refused SplitBit) = refl
numbers_at_place place before (Refused TooShort) = refl
numbers_at_place place before (Refused TooLong) = refl
numbers_at_place place before (Refused (ErrorByte bytes)) = refl

pub numbers_at : (place : ℕ) (outcome : DccOutcome) → outcome ≡ outcome_numbers outcome.at (outcome_seen outcome)
    → at_place place outcome ≡ outcome_numbers place (outcome_seen outcome)
numbers_at place outcome numbers =
    ap (at_place place) numbers ∙ numbers_at_place place outcome.at (outcome_seen outcome)
