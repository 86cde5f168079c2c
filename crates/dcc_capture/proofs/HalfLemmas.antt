-- What the half of a word at hand says of a capture.
use Rattle.std.proofs.Common.{◌≡◌, ◌+◌, ◌≤◌, ℕ, suc, zero, take, List, [], ◌∷◌, length, false, eqb, None, Some, Ok}
use Rattle.std.proofs.Common.{refl, sym, ap, subst, arith}
use Rattle.std.proofs.lemmas.Bool.{and_parts, false_from_ne_true, eqb-true}
use Rattle.std.specs.List.{list_all}
use Rattle.std.specs.Char.{is_ascii_digit}
use Rattle.dcc_io.specs.InputState.{InputState}
use Rattle.dcc_io.specs.declared.word.Run.{Run}
use Rattle.dcc_io.specs.Words.{is_dash, is_mark, run_of}
use Rattle.dcc_io.specs.Counted.{TakesHalf, TakesHalves, TakesRun}
use Rattle.dcc_io.proofs.FrontLemmas.{digit_bounds, duration_parts}
use Rattle.dcc_io.proofs.SpellsLemmas.{no_star_in, before_all}
use Rattle.dcc_capture.specs.Capture.{AnswersRun, GaveHalves}
use Rattle.dcc_capture.proofs.LinesLemmas.{GaveHalves-append, GaveHalves-none}
use Rattle.dcc_capture.specs.FirstRead.{AnswersFirst, LeadsTo, first_so_far}
use Rattle.dcc_capture.proofs.RunWordLemmas.{run_of_duration, spelled_parts, some_half}
use Rattle.dcc_capture.proofs.CaptureLemmas.{Gave-word}
use Rattle.dcc_capture.proofs.BothLemmas.{Leads-join, counts_run}

-- a run that was at hand is the next of a capture
pub run_taken : {old new : InputState} {run : Run} → TakesRun old run new → AnswersRun old (Ok (Some run)) new
run_taken {run = run} takes = (
  Gave-word takes.passed takes.spells takes.enough takes.counted,
  some_half takes.word run takes.spells,
  takes.fewer,
)

-- three dashes spell no run
no_run : (word : List ℕ) (run : Run) → run_of word ≡ Some run → is_mark word ≡ false
no_run [] run spells = refl
no_run (byte ∷ word) run spells = false_from_ne_true _ (λ mark.
    let dashes = (and_parts (eqb (length (byte ∷ word)) 3) (list_all is_dash (byte ∷ word)) mark).1 in
    let before = before_all (byte ∷ word) (no_star_in is_dash (byte ∷ word) refl dashes) in
    let digits = (duration_parts (byte ∷ word) run.us (rw before at (spelled_parts (byte ∷ word) run spells).0)).1 in
    let digit = (and_parts (is_ascii_digit byte) (list_all is_ascii_digit word) digits).0 in
    let dash = (and_parts (is_dash byte) (list_all is_dash word) dashes).0 in
    omega (arith, eqb-true byte 45 dash, digit_bounds byte digit))

-- and of the first of two captures
pub first_run_taken : {old new : InputState} {run : Run} (before : ℕ) → old.fault ≡ None → TakesRun old run new
    → AnswersFirst before old (Ok (Some (old.place.line, run))) new
first_run_taken {old} {new} {run} before none takes =
    let fewer = takes.fewer in
    let bytes : new.bytes ≡ takes.mid.bytes = ap (λ (state : InputState). state.bytes) takes.counted in
    counts_run before old.place.line takes.word old takes.mid none takes.passed new (old.place.line, run)
    (rw (no_run takes.word run takes.spells) refl) (omega (arith, fewer, bytes))
    (refl, takes.spells, takes.enough, takes.counted)

-- a half is a run of one
as_run : {old new : InputState} {us : ℕ} → TakesHalf old us new → TakesRun old (record { us = us; n = 1 }) new
as_run {us = us} takes = record {
  word = takes.word;
  spells = run_of_duration takes.word us (duration_parts takes.word us takes.spells).1 takes.spells;
  mid = takes.mid;
  passed = takes.passed;
  enough = let some = takes.some in omega arith;
  counted = takes.counted;
  fewer = takes.fewer;
}

pub half_taken : {old new : InputState} {us : ℕ} → TakesHalf old us new
    → AnswersRun old (Ok (Some (record { us = us; n = 1 }))) new
half_taken takes = run_taken (as_run takes)

pub first_half_taken : {old new : InputState} {us : ℕ} (before : ℕ) → old.fault ≡ None → TakesHalf old us new
    → AnswersFirst before old (Ok (Some (old.place.line, record { us = us; n = 1 }))) new
first_half_taken before none takes = first_run_taken before none (as_run takes)

-- durations of words that were taken one after the other are the next half-bits of a capture
pub halves_taken : (old new : InputState) (halves : List ℕ) → old.fault ≡ None → TakesHalves old halves new
    → GaveHalves old halves new
halves_taken old new [] fault same = rw same (GaveHalves-none old fault)
halves_taken old new (us ∷ halves) fault takes =
    let one = (half_taken takes.1).0 in
    GaveHalves-append old takes.0 new (us ∷ []) halves one
    (halves_taken takes.0 new halves one.items.fault takes.2)

pub bytes_taken : (old new : InputState) (halves : List ℕ) → TakesHalves old halves new
    → new.bytes + length halves ≤ old.bytes
bytes_taken old new [] same = rw same (omega arith)
bytes_taken old new (us ∷ halves) takes =
    let later = bytes_taken takes.0 new halves takes.2 in
    let fewer = takes.1.fewer in
    omega arith

-- in the first of two captures
pub first_halves_taken : (before : ℕ) (old new : InputState) (us : ℕ) (halves : List ℕ) → old.fault ≡ None
    → TakesHalves old (us ∷ halves) new → LeadsTo before old new (first_so_far (us ∷ halves) new.lines new)
first_halves_taken before old new us [] none takes =
    rw takes.2
    (subst (λ (line : ℕ). LeadsTo before old takes.0 (first_so_far (us ∷ []) line takes.0)) (sym takes.1.lines)
    (first_half_taken before none takes.1).0)
first_halves_taken before old new us (next ∷ halves) none takes =
    let one = (half_taken takes.1).0 in
    Leads-join before old.place.line old takes.0 new (us ∷ []) (first_so_far (next ∷ halves) new.lines new)
    (first_so_far (us ∷ next ∷ halves) new.lines new) (first_half_taken before none takes.1).0
    (first_halves_taken old.place.line takes.0 new next halves one.items.fault takes.2) (λ end more last. refl)

-- no word at hand was taken
pub none_taken : (old new : InputState) (halves : List ℕ) (count : ℕ) → count ≤ 0
    → TakesHalves old (take count halves) new → new ≡ old
none_taken old new halves zero few taken = taken
none_taken old new halves (suc count) few taken = absurd (omega arith)
