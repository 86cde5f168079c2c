-- Short words at the beginning of the buffered bytes are taken one after the other.
use Rattle.std.proofs.Common.{◌≡◌, ℕ, ◌+◌, ◌-◌, ◌<◌, ◌≤◌, ◌^◌, set, List, [], ◌∷◌, ◌++◌, take, drop, get_or, length}
use Rattle.std.proofs.Common.{true, false, cond}
use Rattle.std.proofs.Common.{Bool, None, Option, Some, append_assoc, take-append-drop, refl, sym, ap, ◌∙◌, arith}
use Rattle.std.proofs.Common.{length-drop, subst, eqb, inl, inr}
use Rattle.std.proofs.lemmas.List.{append_cancel_left, drop-drop, length-set, take_all, take_more_set}
use Rattle.std.specs.Io.KnownBytes.{Consumes, prepend_known}
use Rattle.dcc_io.specs.declared.word.ShortWord.{ShortWord}
use Rattle.dcc_io.specs.InputState.{InputState}
use Rattle.dcc_io.specs.declared.fault.KeptFault.{KeptFault}
use Rattle.dcc_io.specs.ReaderState.{ReaderState, StartsWithBytes}
use Rattle.dcc_io.specs.TextPlace.{line_behind}
use Rattle.dcc_io.specs.PassedWords.{Passed}
use Rattle.dcc_io.specs.Counted.{TakesHalf, TakesHalves}
use Rattle.dcc_io.specs.Inner.FrontWords.{BeginsWithWord, HasLineFeedAt, IsShortWord}
use Rattle.dcc_io.specs.Inner.AheadInput.{Behind, ahead_of}
use Rattle.dcc_io.proofs.BufferedLemmas.{consumes_front}
use Rattle.dcc_io.proofs.FrontLemmas.{begins_with, line_feed_behind, open_with, passes_line_feed_at, passes_word_at}
use Rattle.dcc_io.proofs.FrontLemmas.{state_of}
use Rattle.dcc_io.proofs.PassedLemmas.{Passed-join}

TakesHalves-more : (old mid new : InputState) (halves : List ℕ) (us : ℕ) → TakesHalves old halves mid
    → TakesHalf mid us new → TakesHalves old (halves ++ us ∷ []) new
TakesHalves-more old mid new [] us same takes = (new, rw same at takes, refl)
TakesHalves-more old mid new (first ∷ halves) us before takes =
    (before.0, before.1, TakesHalves-more before.0 mid new halves us before.2 takes)

-- the reader has not returned its end
open_end : (bytes : List ℕ) → false ≡ true → bytes ≡ []
open_end bytes clash = cc

abbrev source_of : Behind → List ℕ → ReaderState
source_of behind bytes = record {
  ahead = bytes;
  text = prepend_known bytes behind.rest;
  failures = behind.failures;
  reads = 0;
}

-- the state after `n` bytes
state_behind : (behind : Behind) (left : ℕ) (bytes : List ℕ) (line last n : ℕ) → n ≤ length bytes
    → state_of (source_of behind (drop n bytes)) line last false false left (length bytes + behind.spare - n) None
    ≡ ahead_of behind left (drop n bytes) line last
state_behind behind left bytes line last n fits =
    let count : length bytes + behind.spare - n ≡ length (drop n bytes) + behind.spare =
    omega (arith, length-drop n bytes) in
    ap (λ bytes_left. state_of (source_of behind (drop n bytes)) line last false false left bytes_left None) count

module _ (behind : Behind) (left : ℕ) (bytes : List ℕ) (line last : ℕ) (spare : 0 < behind.spare) where
  -- a word and one byte of its gap
  word_passed : (len : ℕ) (ends : _) → BeginsWithWord bytes len ends
      → Passed (ahead_of behind left bytes line last) (record { line = line; bytes = take len bytes } ∷ [])
      (ahead_of behind left (drop (len + 1) bytes) (line_behind line (get_or bytes len 0)) line)
  word_passed len ends begins =
      let inside = begins.inside in
      subst (Passed (ahead_of behind left bytes line last) (record { line = line; bytes = take len bytes } ∷ []))
      (state_behind behind left bytes _ line (len + 1) (omega arith))
      (passes_word_at (source_of behind bytes) (source_of behind (drop (len + 1) bytes)) (length bytes + behind.spare)
      (open_end bytes) refl refl len (line_behind line (get_or bytes len 0)) ends refl (omega arith) begins
      (consumes_front bytes (len + 1) behind.rest) refl)

  -- a line feed
  feed_passed : HasLineFeedAt bytes 0
      → Passed (ahead_of behind left bytes line last) [] (ahead_of behind left (drop 1 bytes) (line + 1) line)
  feed_passed feed =
      let inside = feed.0 in
      subst (Passed (ahead_of behind left bytes line last) []) (state_behind behind left bytes _ line 1 (omega arith))
      (passes_line_feed_at (source_of behind bytes) (source_of behind (drop 1 bytes)) (length bytes + behind.spare)
      (open_end bytes) refl refl refl (omega arith) feed (consumes_front bytes 1 behind.rest))

word_begins : (bytes : List ℕ) (word : ShortWord) (is : IsShortWord bytes word)
    → BeginsWithWord bytes is.len (eqb (get_or bytes is.len 0) 10)
word_begins bytes word is =
    let inside = is.inside in
    begins_with bytes (record { us = word.us; len = is.len; ends_line = eqb (get_or bytes is.len 0) 10 }) record {
      inside = omega arith;
      spells = is.spells;
      gap = is.is_gap;
      ends_line = refl;
    }

-- a short word has two bytes or more, and ends within the bytes
short_inside : (bytes : List ℕ) (word : ShortWord) → IsShortWord bytes word
    → (word.len ≤ length bytes) × (2 ≤ word.len)
short_inside bytes word is =
    let some = (word_begins bytes word is).some in
    let inside = is.inside in
    elim is.gap [
      | inl one ↦ let len = one.0 in (omega arith, omega arith)
      | inr two ↦ let len = two.0 in (omega arith, omega arith)
    ]

-- a short word with its gap
short_passed : (behind : Behind) (left : ℕ) (bytes : List ℕ) (line last next : ℕ) (word : ShortWord)
    → 0 < behind.spare → (is : IsShortWord bytes word) → next ≡ cond word.ends_line (line + 1) line
    → Passed (ahead_of behind left bytes line last) (record { line = line; bytes = take is.len bytes } ∷ [])
    (ahead_of behind left (drop word.len bytes) next line)
short_passed behind left bytes line last next word spare is at =
    let passed = word_passed behind left bytes line last spare is.len _ (word_begins bytes word is) in
    elim is.gap [
      | inl one ↦ rw (at, one.0, one.1) passed
      | inr two ↦
          let inside = is.inside in
          let feed = line_feed_behind bytes (is.len + 1) (omega arith, two.3) in
          let both = Passed-join passed (feed_passed behind left (drop (is.len + 1) bytes) _ line spare feed) in
          let twice : is.len + 1 + 1 ≡ is.len + 2 = omega arith in
          rw (at, two.0, two.1) (rw (two.2, drop-drop, twice) at both)
    ]

takes_short : (behind : Behind) (left : ℕ) (bytes : List ℕ) (line last next : ℕ) (word : ShortWord)
    → 0 < behind.spare → 0 < left → IsShortWord bytes word → next ≡ cond word.ends_line (line + 1) line
    → TakesHalf (ahead_of behind left bytes line last) word.us
    (ahead_of behind (left - 1) (drop word.len bytes) next line)
takes_short behind left bytes line last next word spare some is at = record {
  word = take is.len bytes;
  spells = is.spells;
  mid = ahead_of behind left (drop word.len bytes) next line;
  passed = short_passed behind left bytes line last next word spare is at;
  some = some;
  counted = refl;
  lines = refl;
  fewer =
      let inside = short_inside bytes word is in
      let some_bytes = inside.1 in
      omega (arith, length-drop word.len bytes, inside.0);
}

-- the first `count` of `halves` are the durations of the words in the first `len` bytes. The byte
-- after them is on line `now`, and the last word on line `before`.
pub record WordsTaken (bytes : List ℕ) (line last : ℕ) (halves : List ℕ) (count len now before : ℕ) : Type 0 where
  pub taken : (behind : Behind) (left : ℕ) → 0 < behind.spare → length halves ≤ left
      → TakesHalves (ahead_of behind left bytes line last) (take count halves)
      (ahead_of behind (left - count) (drop len bytes) now before)
  pub inside : len ≤ length bytes
  pub lines : now ≤ line + len
  pub small : before < 2 ^ 32

pub words_none : (bytes halves : List ℕ) (line last : ℕ) → last < 2 ^ 32
    → WordsTaken bytes line last halves 0 0 line last
words_none bytes halves line last small = record {
  taken = λ behind left spare enough. let all : left - 0 ≡ left = omega arith in rw all refl;
  inside = omega arith;
  lines = omega arith;
  small = small;
}

line_next : (ends : Bool) (now next : ℕ) → next ≡ cond ends (now + 1) now → next ≤ now + 1
line_next true now next at = omega (arith, at)
line_next false now next at = omega (arith, at)

pub words_next : (bytes halves : List ℕ) (line last count len now before next : ℕ) (word : ShortWord)
    → line + length bytes < 2 ^ 32 → count < length halves
    → IsShortWord (take (length bytes - len) (drop len bytes)) word → next ≡ cond word.ends_line (now + 1) now
    → WordsTaken bytes line last halves count len now before
    → WordsTaken bytes line last (set halves count word.us) (count + 1) (len + word.len) next now
words_next bytes halves line last count len now before next word room some found at words =
    let whole : take (length bytes - len) (drop len bytes) ≡ drop len bytes =
    take_all _ _ (omega (arith, length-drop {A = ℕ})) in
    let is : IsShortWord (drop len bytes) word = rw whole at found in
    let inside = short_inside _ _ is in
    let cut = length-drop len bytes in
    let same = length-set halves count word.us in
    let next_line = line_next word.ends_line now next at in
    let fits : len + word.len ≤ length bytes = omega (arith, inside.0, cut, words.inside) in
    record {
      taken = λ behind left spare enough.
          let one = takes_short behind (left - count) (drop len bytes) now before next word spare
          (omega (arith, same, enough)) is at in
          let fewer : left - count - 1 ≡ left - (count + 1) = omega arith in
          rw (take_more_set halves count word.us some)
          (TakesHalves-more _ _ _ (take count halves) word.us
          (words.taken behind left spare (omega (arith, same, enough)))
          (rw (fewer, drop-drop) at one));
      inside = fits;
      lines = omega (arith, words.lines, next_line, inside.1);
      small = omega (arith, words.lines, words.inside, room, fits, inside.1);
    }

-- the bytes after the buffered bytes
abbrev pub rest_of : (ahead : List ℕ) (text : Option (List ℕ)) → StartsWithBytes ahead text → Option (List ℕ)
rest_of ahead None starts = None
rest_of ahead (Some all) starts = Some starts.0

pub text_ahead : (ahead : List ℕ) (text : Option (List ℕ)) (starts : StartsWithBytes ahead text)
    → text ≡ prepend_known ahead (rest_of ahead text starts)
text_ahead ahead None starts = refl
text_ahead ahead (Some all) starts = ap Some starts.1

pub text_behind : (ahead : List ℕ) (n : ℕ) (old new : Option (List ℕ)) (starts : StartsWithBytes ahead old)
    → Consumes old new (take n ahead) → (old ≡ None → new ≡ None)
    → new ≡ prepend_known (drop n ahead) (rest_of ahead old starts)
text_behind ahead n None new starts consumed unknown = unknown refl
text_behind ahead n (Some all) None starts consumed unknown = absurd consumed
text_behind ahead n (Some all) (Some later) starts consumed unknown =
    let whole : take n ahead ++ (drop n ahead ++ starts.0) ≡ ahead ++ starts.0 =
    rw (← append_assoc, take-append-drop) refl in
    ap Some (append_cancel_left (take n ahead) later (drop n ahead ++ starts.0) (sym consumed ∙ starts.1 ∙ sym whole))

pub takes_between : {old new first last : InputState} (halves : List ℕ) → old ≡ first → new ≡ last
    → TakesHalves first halves last → TakesHalves old halves new
takes_between halves is_first is_last taken = rw (is_first, is_last) taken

-- an input with these fields, told by its buffered bytes
pub state_ahead : (behind : Behind) (source : ReaderState) (ahead : List ℕ) (line lines halves bytes : ℕ)
    (in_comment closed : Bool) (fault : Option KeptFault) → source.ahead ≡ ahead
    → source.text ≡ prepend_known ahead behind.rest → source.failures ≡ behind.failures → in_comment ≡ false
    → closed ≡ false → fault ≡ None → bytes ≡ length ahead + behind.spare
    → state_of source line lines in_comment closed halves bytes fault ≡ ahead_of behind halves ahead line lines
state_ahead behind source ahead line lines halves bytes in_comment closed fault is_ahead text failures no_comment
    is_open none count =
    rw (is_ahead, text, failures, no_comment, is_open, none, count) refl

pub some_items : {A : Type 0} (items : List A) (empty : Bool) → empty ≡ eqb (length items) 0 → empty ≡ false
    → 0 < length items
some_items [] empty is some = let clash = sym is ∙ some in cc
some_items (first ∷ items) empty is some = omega arith

pub is_open : (closed : Bool) (source now : List ℕ) (empty : Bool) → (closed ≡ true → source ≡ []) → now ≡ source
    → empty ≡ eqb (length now) 0 → empty ≡ false → closed ≡ false
is_open closed source now empty at_end same is some =
    open_with closed source 0 at_end (rw (← same) (some_items now empty is some))
