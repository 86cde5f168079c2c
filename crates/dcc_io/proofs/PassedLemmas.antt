-- A word that is being read, and what ends it, and how the rest of a line is passed.
use Rattle.std.proofs.Common.{◌≡◌, ℕ, ◌<◌, List, [], ◌∷◌, ◌++◌, length, Bool, true, false, not, Ok, Err, refl, sym, ap}
use Rattle.std.proofs.Common.{◌∙◌, subst, arith, rules, append_assoc, ◌||◌, IfSome, Option, Some, ◌≢◌, inr, ◌+◌}
use Rattle.std.proofs.lemmas.Bool.{false_from_ne_true, ne_eqb}
pub use Rattle.std.proofs.lemmas.Bool.{or_parts as or_false}
use Rattle.std.proofs.lemmas.List.{append-nil}
use Rattle.std.proofs.lemmas.Bool.Decides.{nat_tests}
use Rattle.dcc_io.specs.declared.word.RunWord.{RunWord}
use Rattle.dcc_io.specs.declared.fault.KeptFault.{KeptFault}
use Rattle.dcc_io.specs.declared.fault.KeptFault.TheVariants.{Read, TooMuch}
use Rattle.dcc_io.specs.TextPlace.{lines_with}
use Rattle.dcc_io.specs.ReaderState.{StartsWithByte, IsAtEnd}
use Rattle.dcc_io.specs.InputState.{InputState, TakesByte, AnswersByte}
use Rattle.dcc_io.specs.Words.{PlacedWord, ended_words, is_some_byte, is_gap, comments}
use Rattle.dcc_io.specs.SpelledWords.{Spells}
use Rattle.dcc_io.specs.Took.{Uses, Took}
use Rattle.dcc_io.specs.PassedWords.{Passed, EndsWord, AnswersWord}
use Rattle.dcc_io.proofs.WordsLemmas.{eqb_line_feed, behind, opened, opened-none, opened-word, opened-gap, ended}
use Rattle.dcc_io.proofs.TookLemmas.{Both, if_some_all, Took-map, Took-told, Took-join, told_behind, if_some_both}
use Rattle.dcc_io.proofs.TookLemmas.{lines_with-some, lines_with-same, fails_to_read, has_too_many}
use Rattle.dcc_io.specs.LineEnd.{SkipsToLineEnd}

-- these bytes end in the front of a word
abbrev pub IsOpenBehind : InputState → InputState → List ℕ → List ℕ → Type 0
IsOpenBehind old now word used =
    (more : List ℕ) → ended_words old.place (used ++ more) ≡ opened now.place word more

-- bytes were read, which end in the front of a word
pub record Opens (old : InputState) (so_far : RunWord) (now : InputState) : Type 0 where
  pub word : List ℕ
  pub spelled : Spells so_far word
  pub took : Took (IsOpenBehind old now word) old now
  pub open took use *
  pub halves : now.halves ≡ old.halves
  -- a text ends with a line feed, and so not within a word, whose line is the last that was used
  pub within : IfSome now.text (λ rest. is_some_byte word ≡ true → (0 < length rest) × (now.lines ≡ now.place.line))

abbrev pub noted : InputState → ℕ → InputState
noted mid byte =
    record mid { place = record { line = mid.place.line; in_comment = comments mid.place.in_comment byte } }

-- a byte was taken, and it was noted whether it begins or ends a comment, and whether it is a gap
pub record TakesNoted (old : InputState) (byte : ℕ) (gap : Bool) (new : InputState) : Type 0 where
  pub took : Took (λ used. used ≡ byte ∷ []) old new
  pub place : new.place ≡ behind old.place byte
  pub is : (comments old.place.in_comment byte || is_gap byte) ≡ gap
  pub halves : new.halves ≡ old.halves
  pub fewer : new.bytes < old.bytes
  pub last : IfSome new.text (λ rest. rest ≡ [] → byte ≡ 10)
  pub lines : IfSome new.text (λ rest. new.lines ≡ lines_with old.lines old.place.line rest)

-- one byte was read
pub took_byte : {old mid : InputState} {byte : ℕ} → TakesByte old byte mid
    → Took (λ used. used ≡ byte ∷ []) old (noted mid byte)
took_byte {old = old} {mid = mid} {byte = byte} takes = record {
  text = go old.text mid.text takes.text takes.lines takes.room;
  bytes = let bytes = takes.bytes in omega arith;
  fault = takes.fault;
  failures = takes.failures;
}
  where
    go : (x y : Option (List ℕ)) → StartsWithByte x byte y
        → IfSome y (λ rest. mid.lines ≡ lines_with old.lines old.place.line rest)
        → (mid.bytes ≡ 0 → IsAtEnd y)
        → Both x y (Uses (λ used. used ≡ byte ∷ []) old (noted mid byte))
    go (Some text) (Some rest) begins lines end = record {
      used = byte ∷ [];
      whole = begins;
      is = refl;
      bytes = takes.bytes;
      room = λ some. end;
      lines = rw (begins, lines, takes.line) refl;
      counts = λ some next more. rw (lines, takes.line, lines_with-some old.lines old.place.line rest some) refl;
    }
    go x y begins lines end = search rules

pub takes_noted : {old new : InputState} {next : Option ℕ} {byte : ℕ} {told gap : Bool} (mid : InputState)
    → next ≡ Some byte → AnswersByte old (Ok next) mid → new ≡ noted mid byte
    → told ≡ (comments mid.place.in_comment byte || is_gap byte) → told ≡ gap → TakesNoted old byte gap new
takes_noted {old = old} {byte = byte} mid is_byte answer is_new is_told is_gap =
    let takes : TakesByte old byte mid = rw is_byte at answer in
    rw is_new record {
      took = took_byte takes;
      place = rw (takes.line, takes.in_comment) refl;
      is = rw takes.in_comment at (sym is_told ∙ is_gap);
      halves = takes.halves;
      fewer = let bytes = takes.bytes in omega (arith, bytes);
      last = takes.last;
      lines = takes.lines;
    }

pub no_bytes : (word : List ℕ) → is_some_byte word ≡ false → word ≡ []
no_bytes [] none = refl
no_bytes (byte ∷ word) none = cc

pub some_bytes : (word : List ℕ) → 0 < length word → is_some_byte word ≡ true
some_bytes [] some = absurd (omega arith)
some_bytes (byte ∷ word) some = refl

pub ended-some : (line : ℕ) (word : List ℕ) → is_some_byte word ≡ true
    → ended line word ≡ record { line = line; bytes = word } ∷ []
ended-some line [] some = cc
ended-some line (byte ∷ word) some = refl

-- where no word is open and none has ended, none is open
pub Opens-none : {old now new : InputState} {so_far : RunWord} (opens : Opens old so_far now)
    → is_some_byte opens.word ≡ false → Passed old [] new → Opens old so_far new
Opens-none {new = new} {so_far = so_far} opens empty passed = record {
  word = [];
  spelled = subst (Spells so_far) (no_bytes opens.word empty) opens.spelled;
  took = Took-map passed.took (λ used passes more. passes more ∙ sym (opened-none new.place more));
  halves = passed.halves;
  within = if_some_all _ new.text (λ rest some. cc);
}

module _ {old now new : InputState} {so_far : RunWord} {byte : ℕ} (opens : Opens old so_far now) where
  -- a byte behind the front of a word
  took_more : {gap : Bool} → TakesNoted now byte gap new → (said : List ℕ → List PlacedWord)
      → ((more : List ℕ) → opened now.place opens.word (byte ∷ more) ≡ said more)
      → Took (λ used. (more : List ℕ) → ended_words old.place (used ++ more) ≡ said more) old new
  took_more takes said each =
      Took-join opens.took takes.took
      (λ first second goes_on is more. rw (is, append_assoc first (byte ∷ []) more)
      (goes_on (byte ∷ more) ∙ each more))

  -- a byte of the word was taken
  pub Opens-word : {more_far : RunWord} → TakesNoted now byte false new
      → ((word : List ℕ) → Spells so_far word → Spells more_far (word ++ byte ∷ [])) → Opens old more_far new
  Opens-word takes spells = record {
    word = opens.word ++ byte ∷ [];
    spelled = spells opens.word opens.spelled;
    took = took_more takes (opened new.place (opens.word ++ byte ∷ []))
        (λ more. rw takes.place (opened-word now.place opens.word byte more apart.0 apart.1));
    halves = takes.halves ∙ opens.halves;
    within = if_some_both new.text takes.lines takes.last on_line;
  }
    where
      apart : (comments now.place.in_comment byte ≡ false) × (is_gap byte ≡ false)
      apart = or_false _ _ takes.is

      -- a byte of a word stands on its line
      on_line : (rest : List ℕ) → new.lines ≡ lines_with now.lines now.place.line rest → (rest ≡ [] → byte ≡ 10)
          → is_some_byte (opens.word ++ byte ∷ []) ≡ true → (0 < length rest) × (new.lines ≡ new.place.line)
      on_line [] lines last some = let clash = rw (last refl) at (eqb_line_feed byte apart.1) in cc
      on_line (next ∷ rest) lines last some = (omega arith, rw (takes.place, eqb_line_feed byte apart.1) lines)

  module _ (takes : TakesNoted now byte true new) where
    -- a gap was taken, which ends the word
    Passed-ended : Passed old (ended now.place.line opens.word) new
    Passed-ended = record {
      took = took_more takes (λ more. ended now.place.line opens.word ++ ended_words new.place more)
          (λ more. rw takes.place (opened-gap now.place opens.word byte more takes.is));
      halves = takes.halves ∙ opens.halves;
    }

    -- a gap where no word is open ends none
    pub Passed-gap : is_some_byte opens.word ≡ false → Passed old [] new
    Passed-gap empty = rw (no_bytes opens.word empty) at Passed-ended

    -- a gap where no word is open
    pub Opens-gap : is_some_byte opens.word ≡ false → Opens old so_far new
    Opens-gap empty = Opens-none opens empty (Passed-gap empty)

    -- a gap behind a word, which leaves the line of the word the last that was used
    pub EndsWord-gap : is_some_byte opens.word ≡ true → EndsWord old now.place.line so_far new
    EndsWord-gap some = record {
      word = opens.word;
      spelled = opens.spelled;
      passed = rw (ended-some now.place.line opens.word some) at Passed-ended;
      fewer = let before = opens.bytes in let fewer = takes.fewer in omega (arith, before, fewer);
      behind = rw takes.place (grind (arith, nat_tests));
      lines = told_behind opens.took (λ text. new.lines ≡ now.place.line) _ (λ text rest uses same. same)
          (if_some_both now.text opens.within
          (told_behind takes.took _ (λ text. now.lines ≡ now.place.line → new.lines ≡ now.place.line)
          (λ text rest uses lines here. lines ∙ rw here (lines_with-same now.place.line rest)) takes.lines)
          (λ text within go. go (within some).1));
    }

-- the end
pub Passed-end : {old now : InputState} {so_far : RunWord} → Opens old so_far now → IsAtEnd now.text → Passed old [] now
Passed-end {now = now} opens at_end = record {
  took = Took-told (opens.word ≡ []) now.halves opens.took
      (if_some_both now.text opens.within at_end (λ rest within none. no_bytes opens.word
      (false_from_ne_true _ (λ some. let more = (within some).0 in let few = ap length none in omega arith))))
      (λ used none goes_on more. rw (goes_on more, none) (opened-none now.place more));
  halves = opens.halves;
}

-- no byte more could be read: within a word or a gap no word has ended
pub answers_err : {old now : InputState} {so_far : RunWord} (new : InputState) (fault : KeptFault)
    → Opens old so_far now → AnswersByte now (Err fault) new → AnswersWord old (Err fault) new
answers_err new Read opens answer =
    fails_to_read opens.took answer (λ used goes_on. rw (append-nil used) at (goes_on []))
answers_err new TooMuch opens answer =
    has_too_many opens.took answer (λ used goes_on. rw (append-nil used) at (goes_on []))
answers_err new fault opens answer = absurd answer

-- whether a word is open, where what is kept of it is told to be empty or not
pub open_word : {old now : InputState} {so_far : RunWord} {empty some : Bool} (opens : Opens old so_far now)
    → ((word : List ℕ) → Spells so_far word → empty ≡ not (is_some_byte word)) → empty ≡ not some
    → is_some_byte opens.word ≡ some
open_word {some = some} opens told is = go (is_some_byte opens.word) some (sym (told opens.word opens.spelled) ∙ is)
  where
    go : (a b : Bool) → not a ≡ not b → a ≡ b
    go true true same = refl
    go false false same = refl
    go a b same = cc

-- these words were passed, and then those
pub Passed-join : {old mid new : InputState} {front words : List PlacedWord} → Passed old front mid
    → Passed mid words new
    → Passed old (front ++ words) new
Passed-join {new = new} {front = front} {words = words} first next = record {
  took = Took-join first.took next.took (λ used behind passes then more.
      let whole = append_assoc front words (ended_words new.place more) in
      rw (append_assoc used behind more, passes (behind ++ more), then more, whole) refl);
  halves = next.halves ∙ first.halves;
}

-- a word that has ended behind gaps
pub ends_behind_gaps : {old mid new : InputState} {line : ℕ} {so_far : RunWord} → Passed old [] mid
    → EndsWord mid line so_far new → EndsWord old line so_far new
ends_behind_gaps {new = new} {line = line} gaps ends = record {
  word = ends.word;
  spelled = ends.spelled;
  passed = Passed-join gaps ends.passed;
  fewer = let fewer = ends.fewer in omega (arith, fewer, gaps.bytes);
  behind = ends.behind;
  lines = told_behind gaps.took (λ rest. new.lines ≡ line) _ (λ text rest uses same. same) ends.lines;
}

-- within a line, no word of which has ended
pub record OpensHere (old : InputState) (so_far : RunWord) (now : InputState) : Type 0 where
  pub opens : Opens old so_far now
  pub here : now.place.line ≡ old.place.line

module _ {old now new : InputState} {so_far : RunWord} {byte : ℕ} (so : OpensHere old so_far now) where
  pub OpensHere-word : {more_far : RunWord} → TakesNoted now byte false new
      → ((word : List ℕ) → Spells so_far word → Spells more_far (word ++ byte ∷ [])) → OpensHere old more_far new
  OpensHere-word takes spells =
      let other = eqb_line_feed byte (or_false _ _ takes.is).1 in
      record { opens = Opens-word so.opens takes spells; here = rw (takes.place, other) so.here }

  module _ (takes : TakesNoted now byte true new) where
    pub OpensHere-gap : is_some_byte so.opens.word ≡ false → byte ≢ 10 → OpensHere old so_far new
    OpensHere-gap empty other =
        record { opens = Opens-gap so.opens takes empty; here = rw (takes.place, ne_eqb byte 10 other) so.here }

    -- the line feed behind no word
    pub ends_here : is_some_byte so.opens.word ≡ false → byte ≡ 10 → SkipsToLineEnd old (Ok true) new
    ends_here empty feed =
        let line : new.place.line ≡ old.place.line + 1 = rw (takes.place, feed, so.here) refl in
        (Passed-gap so.opens takes empty, if_some_all _ new.text (λ rest. inr (omega arith)))

    pub ends_in_word : is_some_byte so.opens.word ≡ true → SkipsToLineEnd old (Ok false) new
    ends_in_word some =
        let ends = rw so.here at (EndsWord-gap so.opens takes some) in (ends.word, ends.passed, ends.lines)
