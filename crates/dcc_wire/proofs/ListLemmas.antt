-- Lists of half-bits that a framer takes.
use Rattle.std.proofs.Common.{◌≡◌, ℕ, suc, zero, ◌+◌, ◌-◌, ◌<◌, ◌≤◌, List, [], ◌∷◌, ◌++◌, length, length-append, take}
use Rattle.std.proofs.Common.{drop, map}
use Rattle.std.proofs.Common.{get_or, refl, sym, ap, ◌∙◌, arith, append_assoc, append-nil, ◌≢◌, None, inl}
use Rattle.std.proofs.Common.{inr}
use Rattle.std.proofs.Math.Seq.{take-add, take-suc}
use Rattle.std.proofs.lemmas.List.{length-drop, length-take, nil_from_length, take_all}
use Rattle.dcc_wire.specs.declared.half.Half.{Half}
use Rattle.dcc_wire.specs.declared.many.ManySeen.{ManySeen}
use Rattle.dcc_wire.specs.declared.seen.Seen.{Seen}
use Rattle.dcc_wire.specs.declared.seen.Seen.TheVariants.{Nothing}
use Rattle.dcc_wire.specs.Framing.{Rest, Hunting, InBody, seen, report_at, StandsFor}
use Rattle.dcc_wire.specs.Half.{class_of}
use Rattle.dcc_wire.specs.Inner.Lists.{PassesList, PushesSome}
use Rattle.dcc_wire.specs.Inner.Steps.{rest_after, answer_to, answer_of, left_of}
use Rattle.dcc_wire.specs.Outcomes.{ones_left, outcome_of}
use Rattle.dcc_wire.specs.Passes.{PassesBody}
use Rattle.dcc_wire.proofs.ByteBits.{cases_Option}
use Rattle.dcc_wire.proofs.FramingLemmas.{rest-push, seen-push}
use Rattle.dcc_wire.proofs.HistoryLemmas.{HasHistory}
use Rattle.dcc_wire.proofs.OutcomeLemmas.{outcome_of-more}
use Rattle.dcc_wire.proofs.PassedBits.{rest_inside}
use Rattle.dcc_wire.proofs.SeenLemmas.{seen-grows}

pub passes_none : (old : Rest) → PassesList old [] old
unfolding StandsFor
passes_none old = record { stands = λ durations h. rw append-nil h; quiet = λ durations h. rw append-nil refl }

-- one list after another
pub passes_join : {old mid new : Rest} (first next : List ℕ) → PassesList old first mid → PassesList mid next new
    → PassesList old (first ++ next) new
passes_join first next one two = record {
  stands = λ durations h.
      rw (← append_assoc durations first next) (two.stands (durations ++ first) (one.stands durations h));
  quiet = λ durations h.
      rw (← append_assoc durations first next)
      (two.quiet (durations ++ first) (one.stands durations h) ∙ one.quiet durations h);
}

-- a half-bit without an outcome
pub passes_one : (old : Rest) (us : ℕ) → answer_to old (class_of us) ≡ Nothing
    → PassesList old (us ∷ []) (rest_after old (class_of us))
unfolding StandsFor report_at
passes_one old us nothing = record {
  stands = λ durations h. rw (rest-push, ← h) refl;
  quiet = λ durations h. seen-push durations us ∙ rw (← h, nothing) (append-nil (seen durations));
}

-- the first half-bit of those that leave a body unfinished
pub unfinished_before : (body : List Half) (us : ℕ) (halves : List ℕ)
    → outcome_of (body ++ map class_of (us ∷ halves)) ≡ None
    → (outcome_of (body ++ class_of us ∷ []) ≡ None)
    × (outcome_of ((body ++ class_of us ∷ []) ++ map class_of halves) ≡ None)
unfinished_before body us halves unfinished =
    let longer = body ++ class_of us ∷ [] in
    let all : outcome_of (longer ++ map class_of halves) ≡ None =
    ap outcome_of (append_assoc body (class_of us ∷ []) (map class_of halves)) ∙ unfinished in (
      elim (cases_Option (outcome_of longer)) [
        | inl none ↦ none
        | inr some ↦
            let clash = sym (outcome_of-more longer (map class_of halves) some.0 some.1) ∙ all in cc
      ],
      all,
    )

pub passes_in_body : (body : List Half) (us : ℕ) → outcome_of (body ++ class_of us ∷ []) ≡ None
    → PassesList (InBody body) (us ∷ []) (InBody (body ++ class_of us ∷ []))
unfolding rest_after answer_to answer_of left_of
passes_in_body body us none = rw none at (passes_one (InBody body) us (rw none refl))

-- half-bits of a body that is unfinished after them
pub passes_body : (body : List Half) (halves : List ℕ) → outcome_of (body ++ map class_of halves) ≡ None
    → PassesList (InBody body) halves (InBody (body ++ map class_of halves))
passes_body body [] unfinished = rw append-nil (passes_none (InBody body))
passes_body body (us ∷ halves) unfinished =
    let longer = body ++ class_of us ∷ [] in
    let before = unfinished_before body us halves unfinished in
    let whole : body ++ map class_of (us ∷ halves) ≡ longer ++ map class_of halves =
    sym (append_assoc body (class_of us ∷ []) (map class_of halves)) in
    rw whole (passes_join (us ∷ []) halves (passes_in_body body us before.0) (passes_body longer halves before.1))

-- a list whose half-bits a framer passes makes a longer history
pub history_list : {old new : Rest} {halves : List ℕ} → PassesList old halves new → HasHistory old → HasHistory new
history_list {halves = halves} passes history = (history.0 ++ halves, passes.stands history.0 history.1)

-- half-bits without an outcome, and then perhaps one half-bit with an outcome

passes_before : {old new : Rest} (front back : List ℕ) → PassesList old (front ++ back) new → (durations : List ℕ)
    → StandsFor old durations → seen (durations ++ front) ≡ seen durations
passes_before front back passes durations h =
    let first = seen-grows durations front in
    let all = seen-grows (durations ++ front) back in
    let whole : seen durations ≡ (seen durations ++ first.0) ++ all.0 =
    sym (passes.quiet durations h) ∙ ap seen (sym (append_assoc durations front back)) ∙ all.1 ∙ rw first.1 in
    let none : first.0 ≡ [] =
    nil_from_length first.0 (omega (arith, ap length whole, length-append {A = ℕ × Seen})) in
    rw none at first.1 ∙ append-nil (seen durations)

-- all half-bits before the last of them
all_but_one : (halves : List ℕ) (at : ℕ)
    → take at halves ≡ take (at - 1) halves ++ take (at - (at - 1)) (drop (at - 1) halves)
all_but_one halves at =
    let all : (at - 1) + (at - (at - 1)) ≡ at = omega arith in
    rw all at (take-add (at - 1) (at - (at - 1)) halves)

pub quiet_list : {old new : Rest} (halves : List ℕ) (at : ℕ) → PassesList old (take at halves) new
    → (durations : List ℕ) → StandsFor old durations → seen (durations ++ take (at - 1) halves) ≡ seen durations
quiet_list halves at passes =
    passes_before (take (at - 1) halves) (take (at - (at - 1)) (drop (at - 1) halves))
    (rw (all_but_one halves at) at passes)

pub sees_nothing : {old new : Rest} (halves : List ℕ) (at : ℕ) → PassesList old (take at halves) new
    → (durations : List ℕ) → StandsFor old durations
    → seen (durations ++ take at halves) ≡ seen durations ++ report_at (length durations + at - 1) Nothing
unfolding report_at
sees_nothing halves at passes durations h = passes.quiet durations h ∙ sym (append-nil (seen durations))

pub takes_all : {old new : Rest} (halves : List ℕ) (at : ℕ) → at ≡ length halves → 0 < length halves
    → PassesList old (take at halves) new → PushesSome old halves (record { seen = Nothing; at = at }) new
takes_all halves at all some passes = record {
  stands = passes.stands;
  sees = sees_nothing halves at passes;
  before = quiet_list halves at passes;
  some = omega (arith, all, some);
  hunts = λ something. absurd (something refl);
}

pub takes_more : {old mid new : Rest} (halves : List ℕ) (at : ℕ) (shown : Seen) → at < length halves
    → PassesList old (take at halves) mid
    → ((durations : List ℕ) → StandsFor mid durations → StandsFor new (durations ++ get_or halves at 0 ∷ []))
    → ((durations : List ℕ) → StandsFor mid durations
    → seen (durations ++ get_or halves at 0 ∷ []) ≡ seen durations ++ report_at (length durations) shown)
    → (shown ≢ Nothing → new ≡ Hunting (ones_left shown))
    → PushesSome old halves (record { seen = shown; at = at + 1 }) new
takes_more halves at shown inside passes stands sees hunts =
    let next : at + 1 ≡ suc at = omega arith in
    let same : at + 1 - 1 ≡ at = omega arith in
    let longer = λ (durations : List ℕ). ap (λ l. durations ++ l) (take-suc halves at 0 inside)
    ∙ sym (append_assoc durations (take at halves) (get_or halves at 0 ∷ [])) in
    record {
      stands = λ durations h.
          rw (next, longer durations) (stands (durations ++ take at halves) (passes.stands durations h));
      sees = λ durations h.
          let place : length (durations ++ take at halves) ≡ length durations + suc at - 1 =
          omega (arith, length-append durations (take at halves), length-take at halves, inside) in
          rw (next, longer durations)
          (sees (durations ++ take at halves) (passes.stands durations h) ∙ rw (passes.quiet durations h, place));
      before = λ durations h. rw same (passes.quiet durations h);
      some = omega (arith, inside);
      hunts = hunts;
    }

-- some half-bits, and then some of the rest of a list

rest_of_list : (halves : List ℕ) (at : ℕ) → take (length halves - at) (drop at halves) ≡ drop at halves
rest_of_list halves at = take_all _ _ (omega (arith, length-drop {A = ℕ}))

pub take_both : (halves : List ℕ) (at more : ℕ) (durations : List ℕ)
    → durations ++ take (at + more) halves
    ≡ (durations ++ take at halves) ++ take more (take (length halves - at) (drop at halves))
take_both halves at more durations =
    rw (rest_of_list halves at, take-add at more halves)
    (sym (append_assoc durations (take at halves) (take more (drop at halves))))

pub takes_on : {old mid new : Rest} (halves : List ℕ) (at : ℕ) (shown : ManySeen) → at ≤ length halves
    → PassesList old (take at halves) mid → PushesSome mid (take (length halves - at) (drop at halves)) shown new
    → PushesSome old halves (record { seen = shown.seen; at = at + shown.at }) new
takes_on halves at shown within passes takes =
    let some = takes.some.0 in
    let fits = rest_inside halves at shown.at within takes.some.1 in
    let before : at + shown.at - 1 ≡ at + (shown.at - 1) = omega (arith, some) in
    record {
      stands = λ durations h.
          rw (take_both halves at shown.at durations)
          (takes.stands (durations ++ take at halves) (passes.stands durations h));
      sees = λ durations h.
          let place : length (durations ++ take at halves) + shown.at - 1 ≡ length durations + (at + shown.at) - 1 =
          omega (arith, length-append durations (take at halves), length-take at halves, within) in
          rw (take_both halves at shown.at durations)
          (takes.sees (durations ++ take at halves) (passes.stands durations h)
          ∙ rw (passes.quiet durations h, place));
      before = λ durations h.
          rw (before, take_both halves at (shown.at - 1) durations)
          (takes.before (durations ++ take at halves) (passes.stands durations h) ∙ passes.quiet durations h);
      some = omega (arith, some, fits);
      hunts = takes.hunts;
    }

pub takes_nothing : {old new : Rest} (halves : List ℕ) (shown : ManySeen) → PushesSome old halves shown new
    → shown.seen ≡ Nothing → PassesList old (take shown.at halves) new
unfolding report_at
takes_nothing halves shown takes nothing = record {
  stands = takes.stands;
  quiet = λ durations h. takes.sees durations h ∙ rw nothing (append-nil (seen durations));
}

pub passes_of_body : {old new : Rest} {halves : List ℕ} → PassesBody old halves new → PassesList old halves new
passes_of_body {halves = halves} passes =
    rw (passes.before, passes.after) (passes_body passes.body halves passes.unfinished)

-- a body that takes some half-bits or none
pub passes_some : {old new : Rest} (halves : List ℕ) (at : ℕ) → (at ≢ 0 → PassesBody old (take at halves) new)
    → (at ≡ 0 → new ≡ old) → PassesList old (take at halves) new
passes_some {old} halves zero some none = rw (none refl) (passes_none old)
passes_some halves (suc at) some none = passes_of_body (some (λ e. cc))
