-- A word, a run or a line at the front of the bytes at hand is the next of the input.
use Rattle.std.proofs.Common.{◌≡◌, ℕ, ◌+◌, ◌-◌, ◌*◌, ◌<◌, ◌≤◌, List, [], ◌∷◌, ◌++◌, take, get_or, length, Bool, true}
use Rattle.std.proofs.Common.{false, eqb, nat_lt, nat_le, ◌&&◌, min, Option, None, Some, IfSome, IsSomeAnd, refl, sym}
use Rattle.std.proofs.Common.{ap, ◌∙◌, arith, append_assoc, rules, length-take, drop, length-append, length-drop}
use Rattle.std.proofs.lemmas.List.{append-nil, take_more, length-take-le, drop_more, take-append-drop, get_or-drop}
use Rattle.std.proofs.lemmas.List.Folds.{list_all_more, list_all-append}
use Rattle.std.proofs.lemmas.Bool.{and_parts, or_parts, not-true, le-leb, lt-ltb, ltb-true}
use Rattle.std.proofs.lemmas.Option.{cond_some}
use Rattle.std.proofs.lemmas.Bool.Decides.{nat_tests}
use Rattle.std.specs.Io.KnownBytes.{Consumes}
use Rattle.std.specs.List.{list_all}
use Rattle.std.specs.Char.{is_ascii_digit, is_ascii}
use Rattle.dcc_io.specs.declared.word.FrontWord.{FrontWord}
use Rattle.dcc_io.specs.TextPlace.{TextPlace, line_behind, lines_through}
use Rattle.dcc_io.specs.Words.{PlacedWord, is_gap, comments, duration_of, Passes, count_in_word, run_with}
use Rattle.dcc_io.specs.Inner.FrontRuns.{SpellsNumber, IsFrontRun}
use Rattle.dcc_io.specs.Inner.FrontWords.{BeginsWithWord, HasLineFeedAt, IsFrontWord, is_word_byte, EndNoLine}
use Rattle.dcc_io.specs.Inner.FrontWords.{is_within_line}
use Rattle.dcc_io.specs.declared.fault.KeptFault.{KeptFault}
use Rattle.dcc_io.specs.ReaderState.{ReaderState}
use Rattle.dcc_io.specs.InputState.{InputState, closed_text, closing}
use Rattle.dcc_io.specs.PassedWords.{Passed}
use Rattle.dcc_io.proofs.WordsLemmas.{eqb_line_feed, opened, opened-none, opened-word, opened-gap}
use Rattle.dcc_io.proofs.HandLemmas.{outside}
use Rattle.dcc_io.proofs.PassedLemmas.{some_bytes, ended-some}
use Rattle.dcc_io.proofs.SpellsLemmas.{digit_value-digit, is_ascii_digit-digit, digits_value_after-push, behind_no_star}
use Rattle.dcc_io.proofs.SpellsLemmas.{no_star_in}
use Rattle.std.proofs.Math.Seq.{take-append-add, take-add}
use Rattle.dcc_io.specs.NextLine.{has_line_feed, ReadsLine}
use Rattle.dcc_io.specs.Inner.FrontLine.{BeginsWithLine, IsEndedLine}
use Rattle.dcc_io.proofs.TookLemmas.{lines_with-some}

pub digit_bounds : (byte : ℕ) → is_ascii_digit byte ≡ true → (48 ≤ byte) × (byte ≤ 57)
digit_bounds byte digit = (grind (arith, nat_tests), grind (arith, nat_tests))

-- a digit is no gap, begins no comment and ends no line
record IsPlain (byte : ℕ) : Type 0 where
  no_comment : comments false byte ≡ false
  no_gap : is_gap byte ≡ false
  no_line : eqb byte 10 ≡ false

plain_parts : (byte : ℕ) → is_word_byte byte ≡ true → IsPlain byte
unfolding comments
plain_parts byte plain =
    let parts = or_parts _ _ (not-true _ plain) in
    let no_line = eqb_line_feed byte parts.0 in
    record { no_comment = rw (no_line, parts.1) refl; no_gap = parts.0; no_line = no_line }

-- bytes that pass one test pass another
all_pass : (p q : ℕ → Bool) (word : List ℕ) → ((byte : ℕ) → p byte ≡ true → q byte ≡ true) → list_all p word ≡ true
    → list_all q word ≡ true
all_pass p q [] each all = refl
all_pass p q (byte ∷ word) each all =
    let parts = and_parts (p byte) (list_all p word) all in rw (each byte parts.0, all_pass p q word each parts.1) refl

plain_digit : (byte : ℕ) → is_ascii_digit byte ≡ true → is_word_byte byte ≡ true
unfolding is_gap
plain_digit byte digit = let bounds = digit_bounds byte digit in grind (arith, nat_tests)

pub plain_digits : (word : List ℕ) → list_all is_ascii_digit word ≡ true → list_all is_word_byte word ≡ true
plain_digits word digits = all_pass is_ascii_digit is_word_byte word plain_digit digits

plain_within : (word : List ℕ) → list_all is_word_byte word ≡ true → list_all is_within_line word ≡ true
plain_within word plain =
    all_pass is_word_byte is_within_line word (λ byte is. rw (plain_parts byte is).no_line refl) plain

opened-plain : (line : ℕ) (front word more : List ℕ) → list_all is_word_byte word ≡ true
    → opened (outside line) front (word ++ more) ≡ opened (outside line) (front ++ word) more
opened-plain line front [] more digits = rw (append-nil front) refl
opened-plain line front (byte ∷ word) more digits =
    let parts = and_parts (is_word_byte byte) (list_all is_word_byte word) digits in
    let plain = plain_parts byte parts.0 in
    let rest = rw append_assoc at (opened-plain line (front ++ byte ∷ []) word more parts.1) in
    opened-word (outside line) front byte (word ++ more) plain.no_comment plain.no_gap
    ∙ rw (plain.no_comment, plain.no_line) rest

-- a gap begins no comment
gap_outside : (gap : ℕ) → is_gap gap ≡ true → comments false gap ≡ false
unfolding comments is_gap
gap_outside gap is = grind (arith, nat_tests)

abbrev comment_place : ℕ → TextPlace
comment_place line = record { line = line; in_comment = true }

-- a word and a gap hold one word
pub passes_front : (line gap : ℕ) (word : List ℕ) → list_all is_word_byte word ≡ true → 0 < length word → is_gap gap
    ≡ true
    → Passes (outside line) (word ++ gap ∷ []) (record { line = line; bytes = word } ∷ [])
    (outside (line_behind line gap))
passes_front line gap word digits some is = λ more.
    rw (append_assoc word (gap ∷ []) more)
    (sym (opened-none (outside line) (word ++ gap ∷ more)) ∙ opened-plain line [] word (gap ∷ more) digits
    ∙ opened-gap (outside line) word gap more (rw (gap_outside gap is, is) refl)
    ∙ rw (ended-some line word (some_bytes word some), gap_outside gap is) refl)

-- a line feed holds no word
pub line_feed_passes : (line : ℕ) → Passes (outside line) (10 ∷ []) [] (outside (line + 1))
unfolding is_gap comments
line_feed_passes line = λ more.
    sym (opened-none (outside line) (10 ∷ more)) ∙ opened-gap (outside line) [] 10 more refl

-- a comment holds none before its line ends
passes_in_comment : (line : ℕ) (used : List ℕ) → list_all is_within_line used ≡ true
    → Passes (comment_place line) used [] (comment_place line)
unfolding comments
passes_in_comment line [] all more = refl
passes_in_comment line (byte ∷ used) all more =
    let parts = and_parts (is_within_line byte) (list_all is_within_line used) all in
    let apart = not-true _ parts.0 in
    sym (opened-none (comment_place line) (byte ∷ used ++ more))
    ∙ opened-gap (comment_place line) [] byte (used ++ more) (rw apart refl)
    ∙ rw apart (passes_in_comment line used parts.1 more)

-- bytes that end no line stand on one
lines_of_used : (lines line : ℕ) (used : List ℕ) (next : ℕ) (more : List ℕ) → 0 < length used
    → list_all is_within_line used ≡ true
    → lines_through line line (next ∷ more) ≡ lines_through lines line (used ++ next ∷ more)
lines_of_used lines line [] next more some all = absurd (omega arith)
lines_of_used lines line (byte ∷ []) next more some all = cc (not-true _ (and_parts _ true all).0)
lines_of_used lines line (byte ∷ second ∷ used) next more some all =
    let parts = and_parts (is_within_line byte) (list_all is_within_line (second ∷ used)) all in
    cc (not-true _ parts.0, lines_of_used line line (second ∷ used) next more (omega arith) parts.1)

-- what a word that spells a duration is made of
pub duration_parts : (word : List ℕ) (us : ℕ) → duration_of word ≡ Some us
    → (0 < length word) × (list_all is_ascii_digit word ≡ true)
duration_parts word us spells =
    let form = nat_le (length word) 10 && list_all is_ascii_digit word in
    let test = cond_some (nat_lt 0 (length word) && form) _ us spells in
    let some = and_parts (nat_lt 0 (length word)) form test.0 in
    (ltb-true 0 (length word) some.0, (and_parts (nat_le (length word) 10) (list_all is_ascii_digit word) some.1).1)

-- a duration at the front is a word there
pub begins_with : (bytes : List ℕ) (front : FrontWord) → IsFrontWord bytes front
    → BeginsWithWord bytes front.len front.ends_line
begins_with bytes front is =
    let parts = duration_parts (take front.len bytes) front.us is.spells in
    record {
      inside = is.inside;
      some = omega (arith, length-take front.len bytes, parts.0);
      plain = plain_digits (take front.len bytes) parts.1;
      gap = is.gap;
      ends = is.ends_line;
    }

-- if `bytes` have a line feed at the place `at`, the bytes from there on begin with a line feed
pub line_feed_behind : (bytes : List ℕ) (at : ℕ) → HasLineFeedAt bytes at → HasLineFeedAt (drop at bytes) 0
line_feed_behind bytes at is =
    let inside = is.0 in
    let here : at + 0 ≡ at = omega arith in
    (omega (arith, length-drop at bytes), get_or-drop at bytes 0 0 ∙ ap (λ k. get_or bytes k 0) here ∙ is.1)

-- what an input with these fields is
abbrev pub state_of : ReaderState → ℕ → ℕ → Bool → Bool → ℕ → ℕ → Option KeptFault → InputState
state_of source line lines in_comment closed halves bytes fault = record {
  text = closed_text closed source.text;
  ahead = source.ahead;
  place = record { line = line; in_comment = in_comment };
  lines = lines;
  halves = halves;
  bytes = bytes + closing closed;
  fault = fault;
  failures = source.failures;
}

-- where a byte is ahead, the reader has not answered its end
pub open_with : (closed : Bool) (ahead : List ℕ) (len : ℕ) → (closed ≡ true → ahead ≡ []) → len < length ahead
    → closed ≡ false
open_with true ahead len at_end inside = let clash = rw (at_end refl) at inside in absurd (omega (arith, clash))
open_with false ahead len at_end inside = refl

-- what holds of a text that these bytes begin, and of its rest, behind which the line feed is still to come
pub consumes_both : (P : List ℕ → List ℕ → Type 0) (old new : Option (List ℕ)) (front : List ℕ) → Consumes old new front
    → ((rest : List ℕ) → P (front ++ (rest ++ 10 ∷ [])) (rest ++ 10 ∷ []))
    → IfSome (closed_text false old) (λ text. IsSomeAnd (closed_text false new) (λ rest. P text rest))
consumes_both P (Some xs) (Some ys) front taken each = rw (taken, append_assoc front ys (10 ∷ [])) (each ys)
consumes_both P old new front taken each = search rules

module _ {line lines halves : ℕ} {in_comment closed : Bool} {fault : Option KeptFault} (source later : ReaderState)
    (bytes : ℕ) (at_end : closed ≡ true → source.ahead ≡ []) (none : fault ≡ None)
    (failures : later.failures ≡ source.failures) where
  -- so many of the bytes ahead were passed, which hold these words
  passes_ahead : (n next : ℕ) (words : List PlacedWord) → 0 < n → n ≤ length source.ahead → n < bytes + closing closed
      → Consumes source.text later.text (take n source.ahead)
      → ((byte : ℕ) (more : List ℕ)
      → lines_through line next (byte ∷ more) ≡ lines_through lines line (take n source.ahead ++ byte ∷ more))
      → Passes (record { line = line; in_comment = in_comment }) (take n source.ahead) words
      (record { line = next; in_comment = in_comment })
      → Passed (state_of source line lines in_comment closed halves bytes fault) words
      (state_of later next line in_comment closed halves (bytes - n) fault)
  passes_ahead n next words some inside room consumed counts passes =
      let is_open = open_with closed source.ahead 0 at_end (omega arith) in
      let fits = rw is_open at room in
      let count = length-take-le n source.ahead inside in
      rw (is_open, none) record {
        took = record {
          text = consumes_both _ source.text later.text (take n source.ahead) consumed (λ rest. record {
            used = take n source.ahead;
            whole = refl;
            is = passes;
            bytes = omega (arith, count, fits);
            room = λ one none. absurd (omega (arith, none));
            lines = counted rest;
            counts = λ more. counts;
          });
          bytes = omega (arith, fits);
          fault = refl;
          failures = failures;
        };
        halves = refl;
      }
    where
      counted : (rest : List ℕ) → lines_through line next (rest ++ 10 ∷ [])
          ≡ lines_through lines line (take n source.ahead ++ (rest ++ 10 ∷ []))
      counted [] = counts 10 []
      counted (byte ∷ rest) = counts byte (rest ++ 10 ∷ [])

  -- a word and the gap behind it were passed
  pub passes_word_at : (len next : ℕ) (ends_line : Bool) → in_comment ≡ false → len + 1 < bytes + closing closed
      → BeginsWithWord source.ahead len ends_line → Consumes source.text later.text (take (len + 1) source.ahead)
      → next ≡ line_behind line (get_or source.ahead len 0)
      → Passed (state_of source line lines in_comment closed halves bytes fault)
      (record { line = line; bytes = take len source.ahead } ∷ [])
      (state_of later next line in_comment closed halves (bytes - (len + 1)) fault)
  passes_word_at len next ends_line no_comment room begins consumed behind_gap =
      let inside = begins.inside in
      let some : 0 < length (take len source.ahead) = let some = begins.some in simp length-take (omega arith) in
      let gap = get_or source.ahead len 0 in
      passes_ahead (len + 1) next _ (omega arith) (omega arith) room consumed
      (λ byte more.
      rw (
        behind_gap,
        take_more source.ahead len 0 inside,
        append_assoc (take len source.ahead) (gap ∷ [])
            (byte ∷ more),
      )
      (lines_of_used lines line _ gap (byte ∷ more) some (plain_within _ begins.plain)))
      (rw (no_comment, behind_gap, take_more source.ahead len 0 inside)
      (passes_front line gap (take len source.ahead) begins.plain some begins.gap))

  -- bytes of a comment that end no line were passed
  pub passes_comment_at : (len : ℕ) → in_comment ≡ true → len < bytes → 0 < len → EndNoLine source.ahead len
      → Consumes source.text later.text (take len source.ahead)
      → Passed (state_of source line lines in_comment closed halves bytes fault) []
      (state_of later line line in_comment closed halves (bytes - len) fault)
  passes_comment_at len comment room some ends consumed =
      let within = ends.within in
      passes_ahead len line [] some within (omega arith) consumed
      (λ byte more.
      lines_of_used lines line (take len source.ahead) byte more (simp length-take (omega arith)) ends.none)
      (rw comment (passes_in_comment line (take len source.ahead) ends.none))

  -- a line feed behind no word was passed
  pub passes_line_feed_at : in_comment ≡ false → 1 < bytes + closing closed → HasLineFeedAt source.ahead 0
      → Consumes source.text later.text (take 1 source.ahead)
      → Passed (state_of source line lines in_comment closed halves bytes fault) []
      (state_of later (line + 1) line in_comment closed halves (bytes - 1) fault)
  passes_line_feed_at no_comment room begins consumed =
      let inside = begins.0 in
      let feed : take 1 source.ahead ≡ 10 ∷ [] = rw (← begins.1) (take_more source.ahead 0 0 inside) in
      passes_ahead 1 (line + 1) [] (omega arith) (omega arith) room consumed (λ byte more. rw feed refl)
      (rw (no_comment, feed) (line_feed_passes line))

pub SpellsNumber-digit : (number : ℕ) (bytes : List ℕ) (len : ℕ) → len < length bytes
    → SpellsNumber number (take len bytes) → number < 10000
    → 48 ≤ get_or bytes len 0 → get_or bytes len 0 ≤ 57
    → SpellsNumber (number * 10 + (get_or bytes len 0 - 48)) (take (len + 1) bytes)
SpellsNumber-digit number bytes len inside spells few low high = record {
  digits = rw (list_all_more is_ascii_digit bytes len 0 inside, spells.digits) (is_ascii_digit-digit _ low high);
  value =
      rw (take_more bytes len 0 inside, ← digit_value-digit (get_or bytes len 0) low high, spells.value)
      (sym (digits_value_after-push 0 (take len bytes) (get_or bytes len 0)));
  small = omega arith;
}

-- bytes so far that are good and of one line
pub ends_line : (bytes : List ℕ) (len : ℕ) → len < length bytes → len ≤ 512 → list_all is_ascii (take len bytes) ≡ true
    → has_line_feed (take len bytes) ≡ false → get_or bytes len 0 ≡ 10 → IsEndedLine bytes len
ends_line bytes len inside short ascii one ends =
    let count = length-take-le len bytes (omega arith) in
    let fits : nat_le (length (take len bytes)) 512 ≡ true = le-leb _ _ (omega arith) in
    record { inside = inside; ends = ends; is_line = record { good = rw (fits, ascii) refl; one = one } }

-- a line that has ended
pub begins_with_ended : {bytes : List ℕ} {len : ℕ} → IsEndedLine bytes len
    → BeginsWithLine bytes (take len bytes) × (length (take len bytes) ≡ len)
begins_with_ended {bytes = bytes} {len = len} ended =
    let inside = ended.inside in (
      record {
        behind = drop (len + 1) bytes;
        whole = sym (rw (drop_more bytes len 0 inside, ended.ends) at (take-append-drop len bytes));
        is_line = ended.is_line;
      },
      length-take-le len bytes (omega arith),
    )

-- a line with its line feed is the front of the bytes
line_of_front : (bytes line : List ℕ) (n : ℕ) → n ≡ length line + 1 → BeginsWithLine bytes line
    → take n bytes ≡ line ++ 10 ∷ []
line_of_front bytes line n is front =
    ap (take n) front.whole ∙ ap (λ k. take k (line ++ 10 ∷ front.behind)) is
    ∙ take-append-add line (10 ∷ front.behind) 1

pub takes_line_at : {line lines halves : ℕ} {in_comment closed : Bool} {fault : Option KeptFault}
    (source later : ReaderState) (bytes len : ℕ) (text : List ℕ) → (closed ≡ true → source.ahead ≡ []) → len < bytes
    → BeginsWithLine source.ahead text → length text ≡ len
    → Consumes source.text later.text (take (len + 1) source.ahead) → later.failures ≡ source.failures → fault ≡ None
    → ReadsLine (state_of source line lines in_comment closed halves bytes fault) line text
    (state_of later (line + 1) line in_comment closed halves (bytes - (len + 1)) fault)
takes_line_at {line = line} {closed = closed} source later bytes len text at_end fits front count consumed failures none
    =
    let is_open = open_with closed source.ahead 0 at_end (rw front.whole (simp length-append (omega arith))) in
    let is_front = line_of_front source.ahead text (len + 1) (omega (arith, count)) front in
    rw is_open record {
      at = refl;
      is_line = front.is_line;
      text = consumes_both _ source.text later.text _ consumed
          (λ rest. rw is_front (append_assoc text (10 ∷ []) (rest ++ 10 ∷ [])));
      next = refl;
      lines = consumes_both _ source.text later.text _ consumed
          (λ rest. sym (lines_with-some _ line (rest ++ 10 ∷ []) (simp length-append (omega arith))));
      halves = refl;
      bytes = omega (arith, count);
      room = λ empty. absurd (omega (arith, empty));
      fault = none;
      failures = failures;
    }

duration_is : (word : List ℕ) (number us : ℕ) → SpellsNumber number word → 0 < length word → length word ≤ 10
    → us ≡ min number 65535 → duration_of word ≡ Some us
duration_is word number us spells some few is =
    rw (lt-ltb 0 (length word) some, le-leb (length word) 10 few, spells.digits, is, spells.value) refl

count_is : (word : List ℕ) (n : ℕ) → SpellsNumber n word → 0 < length word → length word ≤ 8 → 0 < n
    → count_in_word word ≡ Some n
count_is word n spells some few above =
    let small = le-leb n 16777216 (omega (arith, spells.small)) in
    rw (← spells.value, lt-ltb 0 (length word) some, le-leb (length word) 8 few, spells.digits, lt-ltb 0 n above, small)
    refl

plain_star : is_word_byte 42 ≡ true
unfolding is_gap
plain_star = refl

-- the word of a run: so many digits, a `*`, and so many digits
word_of_run : (bytes : List ℕ) (star count : ℕ) → star < length bytes → get_or bytes star 0 ≡ 42
    → take (star + 1 + count) bytes ≡ take star bytes ++ 42 ∷ take count (drop (star + 1) bytes)
word_of_run bytes star count inside is =
    rw (take-add (star + 1) count bytes, take_more bytes star 0 inside, is)
    (append_assoc (take star bytes) (42 ∷ []) (take count (drop (star + 1) bytes)))

pub is_front_run : (bytes rest : List ℕ) (star count number us n : ℕ) → rest ≡ drop (star + 1) bytes
    → star < length bytes → SpellsNumber number (take star bytes) → 0 < star → star ≤ 10 → get_or bytes star 0 ≡ 42
    → count < length rest → SpellsNumber n (take count rest) → 0 < count → count ≤ 8 → 0 < n
    → is_gap (get_or rest count 0) ≡ true → us ≡ min number 65535
    → IsFrontRun bytes (record {
      run = record { us = us; n = n };
      len = star + 1 + count;
      ends_line = eqb (get_or rest count 0) 10;
    })
is_front_run bytes rest star count number us n behind inside duration some few is within counted counts few_counts above
    gap value =
    let front = take star bytes in
    let tail = take count rest in
    let word = rw (← behind) at (word_of_run bytes star count inside is) in
    let parts = behind_no_star front (42 ∷ tail) (no_star_in is_ascii_digit front refl duration.digits) in
    let long : length front ≡ star = length-take-le star bytes (omega arith) in
    let counts_long : length tail ≡ count = length-take-le count rest (omega arith) in
    let at : get_or bytes (star + 1 + count) 0 ≡ get_or rest count 0 =
    sym (rw (← behind) at (get_or-drop (star + 1) bytes count 0)) in
    record {
      begins = record {
        inside = omega (arith, within, ap length behind, length-drop (star + 1) bytes);
        some = omega arith;
        plain = rw (
          word,
          list_all-append is_word_byte front (42 ∷ tail),
          plain_digits front duration.digits,
          plain_star,
        )
            (plain_digits tail counted.digits);
        gap = rw at gap;
        ends = rw at refl;
      };
      spells = rw (
        word,
        parts.0,
        append-nil,
        parts.1,
        duration_is front number us duration (omega arith) (omega arith)
            value,
      )
          (ap (run_with (Some us)) (count_is tail n counted (omega arith) (omega arith) above));
    }
