-- What words say of a capture.
use Rattle.std.proofs.Common.{◌≡◌, inl, inr, ℕ, ◌-◌, ◌<◌, ◌≤◌, List, [], ◌∷◌, ◌++◌, Option, None, Some, Result, Ok, Err}
use Rattle.std.proofs.Common.{refl, ap, arith, replicate, IfSome}
use Rattle.std.proofs.lemmas.List.{length-replicate}
pub use Rattle.std.proofs.lemmas.Bool.{le-leb as enough}
use Rattle.dcc_io.specs.declared.word.Run.{Run}
use Rattle.dcc_io.specs.declared.word.RunWord.{RunWord}
use Rattle.dcc_io.specs.declared.fault.KeptFault.{KeptFault}
use Rattle.dcc_io.specs.declared.fault.KeptFault.TheVariants.{Number, Line, Read, TooMuch}
use Rattle.dcc_io.specs.InputState.{InputState}
use Rattle.dcc_io.specs.Words.{PlacedWord, ended_words, run_of}
use Rattle.dcc_io.specs.PassedWords.{Passed, IsBeforeWord, EndsWord, AnswersWord}
use Rattle.dcc_io.specs.Items.{only_fault, Gave}
use Rattle.dcc_capture.specs.Capture.{halves_of_words, capture_in, captures, GaveHalves, NextRunsOver, CaptureLinesAt}
use Rattle.dcc_capture.specs.Capture.{AnswersRun}
use Rattle.dcc_io.specs.Counted.{CountsRun}
use Rattle.dcc_io.proofs.TookLemmas.{within_limit-stops, not_within, Took-counted, Stops-map, overflows, LinesAt-behind}
use Rattle.dcc_io.proofs.ItemsLemmas.{Gave-none, Gave-append}
use Rattle.dcc_capture.proofs.RunWordLemmas.{some_half}

-- the halves of a run were taken from a word
pub Gave-word : {old mid new : InputState} {line : ℕ} {run : Run} {word : List ℕ}
    → Passed old (record { line = line; bytes = word } ∷ []) mid → run_of word ≡ Some run → run.n ≤ mid.halves
    → new ≡ record mid { halves = mid.halves - run.n } → GaveHalves old (replicate run.n run.us) new
Gave-word {mid = mid} {run = run} passed spells fits is_new = rw is_new record {
  items = Took-counted (mid.halves - run.n) passed.took
      (λ used passes more last. rw (passes more, spells, ← passed.halves, enough run.n mid.halves fits) refl);
  left = simp length-replicate (omega (arith, passed.halves));
}

-- words behind which only this fault comes
stops_text : (old mid : InputState) (words : List PlacedWord) (fault : KeptFault) → Passed old words mid
    → ((ws : List PlacedWord) (last : Option KeptFault) → halves_of_words old.halves (words ++ ws) last
    ≡ only_fault (Some fault))
    → IfSome old.text (λ text. capture_in old text ≡ only_fault (Some fault))
stops_text old mid words fault passed each =
    within_limit-stops (captures old) (only_fault (Some fault)) passed.took
    (λ used more last passes. rw (passes more) (each (ended_words mid.place more) last))

-- a word that spells no run
pub stops_at_word : {old mid : InputState} {line : ℕ} {word : List ℕ}
    → Passed old (record { line = line; bytes = word } ∷ []) mid → IfSome old.text (λ text. mid.lines ≡ line)
    → run_of word ≡ None → AnswersRun old (Err (Number line)) (record mid { fault = Some (Number line) })
stops_at_word {line = line} passed lines spells =
    ((passed.failures, stops_text _ _ _ (Number line) passed (λ ws last. rw spells refl)), refl, lines)

-- no word more could be read
pub stops_before_word : (old new : InputState) (fault : KeptFault) → old.fault ≡ None → AnswersWord old (Err fault) new
    → AnswersRun old (Err fault) new
stops_before_word old new Read none answer = (
  Stops-map (IsBeforeWord old) _ (λ text. Unit {0}) (λ text. Unit {0}) old new Read answer.0
      (λ used before. rw before refl) (λ text none. none),
  answer.1,
  answer.2,
)
stops_before_word old new TooMuch none answer = (
  overflows (IsBeforeWord old) (captures old) _ old new answer.0 (λ used before. rw before refl),
  answer.1,
  inl
      answer.2,
)
stops_before_word old new fault none answer = absurd answer

-- of a run that is refused none counts, and its line is the last that was used
pub next_runs_over : {old mid new : InputState} {line : ℕ} {run : Run} {word : List ℕ}
    → Passed old (record { line = line; bytes = word } ∷ []) mid → run_of word ≡ Some run → mid.halves < run.n
    → IfSome old.text (λ text. new.lines ≡ line) → NextRunsOver old new
next_runs_over {mid = mid} {line = line} {run = run} {word = word} passed spells above lines = record {
  word = record { line = line; bytes = word };
  behind = mid;
  passed = passed;
  run = run;
  spells = spells;
  over = let same = passed.halves in omega (arith, above, same);
  lines = lines;
}

-- a run was counted, or had too many halves
pub counts_answer : {old mid : InputState} {line : ℕ} {so_far : RunWord} (new : InputState) (run : Run)
    (result : Result (Option Run) KeptFault) → old.fault ≡ None → (ends : EndsWord old line so_far mid)
    → run_of ends.word ≡ Some run → CountsRun mid run result new → AnswersRun old result new
counts_answer new run (Ok (Some taken)) none ends spells counts =
    rw counts.0 (
      Gave-word ends.passed spells counts.1 counts.2,
      some_half ends.word run spells,
      omega (arith, ends.fewer, ap (λ (state : InputState). state.bytes) counts.2),
    )
counts_answer new run (Ok None) none ends spells counts = absurd counts
counts_answer {old = old} {mid = mid} new run (Err fault) none ends spells counts =
    rw (counts.0, counts.2) (
      (
        ends.passed.failures,
        stops_text old mid _ TooMuch ends.passed
            (λ ws last. rw (spells, ← ends.passed.halves, not_within run.n mid.halves counts.1) refl),
      ),
      refl,
      inr record {
        halves = [];
        mid = old;
        gave = Gave-none captures old none;
        next = next_runs_over ends.passed spells counts.1 ends.lines;
      },
    )

-- the lines that were used at a fault, told from further back
pub CaptureLinesAt-behind : (old mid new : InputState) (front : List ℕ) (fault : KeptFault)
    → Gave captures old front mid
    → CaptureLinesAt mid fault new → CaptureLinesAt old fault new
CaptureLinesAt-behind old mid new front (Number line) gave lines = LinesAt-behind gave new (Number line) lines
CaptureLinesAt-behind old mid new front (Line line why) gave lines = absurd lines
CaptureLinesAt-behind old mid new front Read gave lines = LinesAt-behind gave new Read lines
CaptureLinesAt-behind old mid new front TooMuch gave (inl lines) = inl (LinesAt-behind gave new TooMuch lines)
CaptureLinesAt-behind old mid new front TooMuch gave (inr over) =
    inr record {
      halves = front ++ over.halves;
      mid = over.mid;
      gave = Gave-append captures old mid over.mid front over.halves gave over.gave;
      next = over.next;
    }
