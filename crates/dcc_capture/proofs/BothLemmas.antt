-- What words say of both captures of one input.
use Rattle.std.proofs.Common.{◌≡◌, ◌⊎◌, inl, inr, ℕ, ◌+◌, ◌-◌, ◌<◌, ◌≤◌, List, [], ◌∷◌, ◌++◌, length, take}
use Rattle.std.proofs.Common.{replicate, filter, Bool, true, false, not, eqb, nat_le, ◌&&◌, Option, None, Some}
use Rattle.std.proofs.Common.{Result, Ok, Err, refl, sym, ap, ◌∙◌, arith, append_assoc, IfSome}
use Rattle.std.proofs.lemmas.Bool.{cond_both, ne_eqb, eq-eqb}
use Rattle.std.proofs.lemmas.Bool.Decides.{nat_tests}
use Rattle.dcc_io.specs.declared.word.Run.{Run}
use Rattle.dcc_io.specs.declared.fault.KeptFault.{KeptFault}
use Rattle.dcc_io.specs.declared.fault.KeptFault.TheVariants.{Number, Read, TooMuch}
use Rattle.dcc_io.specs.TextPlace.{TextPlace, line_behind}
use Rattle.dcc_io.specs.InputState.{InputState, all_lines}
use Rattle.dcc_io.specs.Words.{PlacedWord, ended_words, is_gap, without_comments, onto_first, pieces, but_last}
use Rattle.dcc_io.specs.Words.{has_bytes}
use Rattle.dcc_io.specs.Words.{is_mark, run_of}
use Rattle.dcc_io.specs.Took.{within_limit}
use Rattle.dcc_io.specs.PassedWords.{Passed, IsBeforeWord, AnswersWord}
use Rattle.dcc_capture.specs.Capture.{halves_of_words}
use Rattle.dcc_capture.specs.BothCaptures.{Both, Said, fault_alone, in_front, only_second, has_more_words, behind_mark}
use Rattle.dcc_capture.specs.BothCaptures.{both_of, both_from, in_limit}
use Rattle.dcc_capture.specs.FirstRead.{LeadsIn, LeadsTo, first_so_far, first_is, StopsBoth, FirstLinesAt, AnswersFirst}
use Rattle.dcc_capture.specs.Inner.FirstSteps.{CountsWord, EndsMark}
use Rattle.dcc_io.proofs.TookLemmas.{same_cond, if_some_all, map_text, Took-start, Took-counted, Took-join, told_behind}
use Rattle.dcc_io.proofs.TookLemmas.{fails_behind, within_limit-used, not_within, LinesAt-behind}
use Rattle.dcc_capture.proofs.CaptureLemmas.{enough, next_runs_over}
use Rattle.dcc_capture.proofs.RunWordLemmas.{some_half}

-- each word stands on this line or behind it
abbrev AllFrom : ℕ → List PlacedWord → Type 0
AllFrom line [] = Unit {0}
AllFrom line (word ∷ words) = (line ≤ word.line) × AllFrom line words

from_before : (line next : ℕ) (words : List PlacedWord) → line ≤ next → AllFrom next words → AllFrom line words
from_before line next [] before all = tt
from_before line next (word ∷ words) before all =
    (omega (arith, before, all.0), from_before line next words before all.1)

from_onto_first : (line byte : ℕ) (words : List PlacedWord) → AllFrom line words → AllFrom line (onto_first byte words)
from_onto_first line byte [] all = tt
from_onto_first line byte (word ∷ words) all = all

from_but_last : (line : ℕ) (words : List PlacedWord) → AllFrom line words → AllFrom line (but_last words)
from_but_last line [] all = tt
from_but_last line (word ∷ []) all = tt
from_but_last line (word ∷ next ∷ words) all = (all.0, from_but_last line (next ∷ words) all.1)

from_filter : (line : ℕ) (p : PlacedWord → Bool) (words : List PlacedWord) → AllFrom line words
    → AllFrom line (filter p words)
from_filter line p [] all = tt
from_filter line p (word ∷ words) all =
    let rest = from_filter line p words all.1 in
    cond_both (p word) (word ∷ filter p words) (filter p words) (AllFrom line) (λ kept. (all.0, rest)) (λ out. rest)

from_pieces : (line : ℕ) (text : List ℕ) → AllFrom line (pieces line text)
from_pieces line [] = (omega arith, tt)
from_pieces line (byte ∷ text) =
    let rest = pieces (line_behind line byte) text in
    let grows : line ≤ line_behind line byte = grind (arith, nat_tests) in
    let all = from_before line (line_behind line byte) rest grows (from_pieces (line_behind line byte) text) in
    cond_both (is_gap byte) (record { line = line; bytes = [] } ∷ rest) (onto_first byte rest) (AllFrom line)
    (λ gap. (omega arith, all)) (λ other. from_onto_first line byte rest all)

-- the words behind a line do not stand on it
pub no_more_words : (line : ℕ) (place : TextPlace) (text : List ℕ) → line < place.line
    → has_more_words line (ended_words place text) ≡ false
no_more_words line place text behind =
    let shown = without_comments place.in_comment text in
    let words = pieces place.line shown in
    go (ended_words place text) (from_filter place.line has_bytes (but_last words)
    (from_but_last place.line words (from_pieces place.line shown)))
  where
    go : (words : List PlacedWord) → AllFrom place.line words → has_more_words line words ≡ false
    go [] all = refl
    go (word ∷ words) all = ne_eqb word.line line (λ same. omega (arith, behind, all.0, same))

-- what comes behind the line of a mark is the second capture
pub second_behind : (line most : ℕ) (place : TextPlace) (rest more : List ℕ) (last : Option KeptFault)
    → (rest ≡ []) ⊎ (line < place.line) → (rest ≡ [] → more ≡ [])
    → behind_mark line most (ended_words place more) last
    ≡ only_second (halves_of_words most (ended_words place more) last)
second_behind line most place rest more last (inl none) front = rw (front none) refl
second_behind line most place rest more last (inr behind) front = rw (no_more_words line place more behind) refl

pub Leads-start : (before : ℕ) (input : InputState) → input.fault ≡ None
    → LeadsTo before input input (both_from before input)
Leads-start before input fault = Took-start input fault (λ end more last. refl)

-- more words were read
pub Leads-words : (before : ℕ) {old now new : InputState} {words : List PlacedWord}
    (F : ℕ → List PlacedWord → Option KeptFault → Both)
    {G : Said} → LeadsTo before old now (λ end more last. F end (ended_words now.place more) last)
    → Passed now words new
    → ((end : ℕ) (more : List ℕ) (last : Option KeptFault)
    → F end (words ++ ended_words new.place more) last ≡ G end more last)
    → LeadsTo before old new G
Leads-words before F leads passed each =
    Took-join leads passed.took
    (λ first second says passes end more last.
    rw (append_assoc first second more, says end (second ++ more) last, passes more) (each end more last))

-- halves of the first capture, and then what leads on from there
pub Leads-join : (first before : ℕ) (start now new : InputState) (halves : List ℕ) (G H : Said)
    → LeadsTo first start now (first_so_far halves before now) → LeadsTo before now new G
    → ((end : ℕ) (more : List ℕ) (last : Option KeptFault) → in_front halves (G end more last) ≡ H end more last)
    → LeadsTo first start new H
Leads-join first before start now new halves G H leads next each =
    Took-join leads next
    (λ front back says then end more last.
    rw (append_assoc front back more, says end (back ++ more) last, then end more last) (each end more last))

-- what is said of the text is said of the rest
pub in_limit_of : (before : ℕ) (old new : InputState) (said : Said) (text rest : List ℕ)
    → LeadsIn before old new said text rest
    → in_limit (both_from before old) old text ≡ in_limit said new rest
in_limit_of before old new said text rest leads =
    ap (λ n. within_limit (both_from before old (n + 1)) old text) (sym leads.lines)
    ∙ within_limit-used old new (both_from before old (all_lines new rest + 1)) (said (all_lines new rest + 1)) text
    rest leads (λ more last. leads.is (all_lines new rest + 1) more last)

-- a fault stands, whatever follows
stops_said : (before : ℕ) {old mid : InputState} (fault : KeptFault)
    → LeadsTo before old mid (λ end more last. fault_alone fault)
    → IfSome old.text (λ text. in_limit (both_from before old) old text ≡ fault_alone fault)
stops_said before {old = old} {mid = mid} fault leads =
    map_text (LeadsIn before old mid (λ end more last. fault_alone fault)) _ old.text mid.text (λ text rest uses.
    in_limit_of before old mid (λ end more last. fault_alone fault) text rest uses
    ∙ same_cond (nat_le (length rest) mid.bytes) (fault_alone fault)) leads.text

-- a fault before the next word
stops_word : (before : ℕ) {old mid : InputState} (F : ℕ → List PlacedWord → Option KeptFault → Both) (new : InputState)
    (fault : KeptFault) → LeadsTo before old mid (λ end more last. F end (ended_words mid.place more) last)
    → AnswersWord mid (Err fault) new → ((end : ℕ) (f : KeptFault) → F end [] (Some f) ≡ fault_alone f)
    → StopsBoth before old fault new × (new.fault ≡ Some fault) × FirstLinesAt before old fault new
stops_word before {old = old} {mid = mid} F new Read leads answer each = (
  fails_behind leads (IsBeforeWord mid)
      (λ used. (end : ℕ) → both_from before old end used (Some Read) ≡ fault_alone Read) new
      answer.0 (λ first second says none end. rw (says end second (Some Read), none) (each end Read)),
  answer.1,
  LinesAt-behind leads new Read answer.2,
)
stops_word before {old = old} {mid = mid} F new TooMuch leads answer each = (
  (
    answer.0.0 ∙ leads.failures,
    told_behind leads (λ rest. (mid.bytes < length rest) × IsBeforeWord mid (take (mid.bytes - 1) rest)) _
        (λ text rest uses over.
        in_limit_of before old mid (λ end more last. F end (ended_words mid.place more) last) text rest uses
        ∙ rw (not_within (length rest) mid.bytes over.0, over.1) (each (all_lines mid rest + 1) TooMuch)) answer.0.1,
  ),
  answer.1,
  inl (LinesAt-behind leads new TooMuch answer.2),
)
stops_word before F new fault leads answer each = absurd answer

abbrev with_fault : InputState → KeptFault → InputState
with_fault input told = record input { fault = Some told }

module _ (before line : ℕ) (word : List ℕ) (old mid : InputState) (fault : old.fault ≡ None)
    (passed : Passed old (record { line = line; bytes = word } ∷ []) mid) where
  abbrev mark : Bool
  mark = is_mark word && not (eqb line before)

  -- the word leads to what it says
  led : (G : Said)
      → ((end : ℕ) (more : List ℕ) (last : Option KeptFault)
      → both_of before old.halves end (record { line = line; bytes = word } ∷ ended_words mid.place more) last ≡ G
      end more last)
      → LeadsTo before old mid G
  led G each =
      Leads-words before (λ end ws last. both_of before old.halves end ws last) (Leads-start before old fault) passed
      each

  pub counts_run : (new : InputState) (taken : ℕ × Run) → mark ≡ false → mid.bytes < old.bytes
      → CountsWord mid line word (Ok (Some taken)) new → AnswersFirst before old (Ok (Some taken)) new
  counts_run new taken none fewer count = rw count.3 (
    rw count.0
        (Took-counted (mid.halves - taken.1.n)
        (led said (λ end more last. rw (none, count.1, ← passed.halves, enough taken.1.n mid.halves count.2) refl))
        (λ used says. says)),
    let fits = count.2 in omega (arith, fits, passed.halves),
    some_half word taken.1 count.1,
    fewer,
  )
    where
      said : Said
      said end more last =
          in_front (replicate taken.1.n taken.1.us)
          (both_of line (mid.halves - taken.1.n) end (ended_words mid.place more) last)

  refuses_word : (new : InputState) (told : KeptFault) → mark ≡ false → IfSome old.text (λ text. mid.lines ≡ line)
      → new ≡ with_fault mid told
      → ((run_of word ≡ None) × (told ≡ Number line))
      ⊎ ((run : Run) × (run_of word ≡ Some run) × (told ≡ TooMuch) × (mid.halves < run.n))
      → StopsBoth before old told new × (new.fault ≡ Some told) × FirstLinesAt before old told new
  refuses_word new told none lines is_new (inl bad) = rw (is_new, bad.1) (
    (passed.failures, stops_said before (Number line) (led _ (λ end more last. rw (none, bad.0) refl))),
    refl,
    lines,
  )
  refuses_word new told none lines is_new (inr (run, spells, is_told, no_room)) = rw (is_new, is_told) (
    (
      passed.failures,
      stops_said before TooMuch
          (led _ (λ end more last. rw (none, spells, ← passed.halves, not_within run.n mid.halves no_room) refl)),
    ),
    refl,
    inr record {
      halves = [];
      line = before;
      mid = old;
      leads = Leads-start before old fault;
      next = next_runs_over passed spells no_room lines;
    },
  )

  pub counts : (new : InputState) (result : Result (Option (ℕ × Run)) KeptFault) → mark ≡ false → mid.bytes < old.bytes
      → IfSome old.text (λ text. mid.lines ≡ line)
      → CountsWord mid line word result new → AnswersFirst before old result new
  counts new (Ok (Some taken)) none fewer lines count = counts_run new taken none fewer count
  counts new (Ok None) none fewer lines count = absurd count
  counts new (Err told) none fewer lines count = refuses_word new told none lines count.0 count.1

  at_mark : mark ≡ true
      → LeadsTo before old mid (λ end more last. behind_mark line old.halves (ended_words mid.place more) last)
  at_mark begins = led _ (λ end more last. rw begins refl)

  pub marks : (new : InputState) (result : Result (Option (ℕ × Run)) KeptFault) → mark ≡ true → line ≤ mid.place.line
      → EndsMark mid line result new → AnswersFirst before old result new
  marks new (Ok (Some taken)) begins reached answer = absurd answer
  marks new (Ok None) begins reached (inl kept) = rw kept.0 record {
    line = line;
    leads = led (first_is [] line mid) (λ end more last. rw (begins, passed.halves) refl);
    behind = if_some_all _ mid.text (λ rest. inr (omega (arith, reached, kept.1)));
  }
  marks new (Ok None) begins reached (inr ended) = record {
    line = line;
    leads = Leads-words before (λ end ws last. behind_mark line old.halves ws last) (at_mark begins) ended.1.0
        (λ end more last. rw (ended.1.0.halves ∙ passed.halves) refl);
    behind = rw ended.0 at ended.1.1;
  }
  marks new (Err told) begins reached (here, inl (next, more, is_told, is_new)) = rw (is_new, is_told) (
    (
      more.1.failures ∙ passed.failures,
      stops_said before (Number line)
          (Leads-words before (λ end ws last. behind_mark line old.halves ws last) (at_mark begins) more.1
          (λ end rest last. rw (here, eq-eqb line line refl) refl)),
    ),
    refl,
    told_behind passed.took (λ text. next.lines ≡ mid.place.line) _ (λ text rest uses same. same ∙ here) more.2,
  )
  marks new (Err told) begins reached (here, inr stops) =
      stops_word before (λ end ws last. behind_mark line old.halves ws last) new told (at_mark begins) stops
      (λ end f. refl)

-- a fault before the next word
pub answers_fault : (before : ℕ) (old new : InputState) (fault : KeptFault) → old.fault ≡ None
    → AnswersWord old (Err fault) new → AnswersFirst before old (Err fault) new
answers_fault before old new fault none answer =
    stops_word before (λ end ws last. both_of before old.halves end ws last) new fault (Leads-start before old none)
    answer
    (λ end f. refl)
