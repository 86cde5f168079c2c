-- A line that is being read, and what ends it.
use Rattle.std.proofs.Common.{◌≡◌, ℕ, ◌+◌, ◌<◌, List, [], ◌∷◌, ◌++◌, length, true}
use Rattle.std.proofs.Common.{false, eqb, Option, Some, Err, refl, sym, ap, ◌∙◌, arith, append_assoc}
use Rattle.std.proofs.Common.{length-append, ◌&&◌, IfSome, IsSomeAnd, rules, ◌≤◌, ◌≢◌}
use Rattle.std.proofs.Math.Dec.{leb}
use Rattle.std.proofs.lemmas.Bool.{and_parts, and_from, or_parts, false_from_ne_true, both_ways, leb-true, le-leb}
use Rattle.std.proofs.lemmas.Bool.{lt-ltb, ne_eqb}
use Rattle.std.proofs.lemmas.List.{nil_from_length}
use Rattle.std.proofs.lemmas.List.Folds.{list_all-append, list_any-append}
use Rattle.std.specs.Char.{is_ascii}
use Rattle.std.specs.List.{list_all}
use Rattle.std.specs.Prelude.{nat_le, nat_lt}
use Rattle.dcc_packet.specs.declared.fault.PacketFault.TheVariants as faults
use Rattle.dcc_io.specs.declared.fault.KeptFault.{KeptFault}
use Rattle.dcc_io.specs.declared.fault.KeptFault.TheVariants.{Line, Read, TooMuch}
use Rattle.dcc_io.specs.TextPlace.{TextPlace, lines_with, lines_through}
use Rattle.dcc_io.specs.ReaderState.{IsAtEnd}
use Rattle.dcc_io.specs.InputState.{InputState, TakesByte, AnswersByte}
use Rattle.dcc_io.specs.NumberedLines.{is_good}
use Rattle.dcc_io.specs.NextLine.{has_line_feed, lines_within, IsOneLine, ReadsLine, IsBadAt}
use Rattle.dcc_io.specs.NextLine.{MeetsBadLine, AnswersLine}
use Rattle.dcc_io.specs.Took.{Uses, Took}
use Rattle.dcc_io.proofs.PassedLemmas.{noted, took_byte}
use Rattle.dcc_io.proofs.TookLemmas.{Both, if_some_map, if_some_both, lines_with-some, lines_with-same, told_behind}
use Rattle.dcc_io.proofs.TookLemmas.{Took-join}
use Rattle.dcc_io.proofs.TookLemmas.{fails_to_read, has_too_many}

no_feed-more : (line : List ℕ) (byte : ℕ) → has_line_feed line ≡ false → eqb byte 10 ≡ false
    → has_line_feed (line ++ byte ∷ []) ≡ false
no_feed-more line byte one no_end = list_any-append (λ (b : ℕ). eqb b 10) line (byte ∷ []) ∙ rw (one, no_end) refl

good_parts : (line more : List ℕ) → is_good (line ++ more) ≡ true
    → (length line + length more ≤ 512) × (list_all is_ascii line ≡ true) × (list_all is_ascii more ≡ true)
good_parts line more good =
    let parts = and_parts (nat_le (length (line ++ more)) 512) (list_all is_ascii (line ++ more)) good in
    let all = and_parts (list_all is_ascii line) (list_all is_ascii more)
    (rw (list_all-append is_ascii line more) at parts.1) in
    (rw (length-append line more) at (leb-true _ _ parts.0), all.0, all.1)

-- a byte too many or past ASCII makes the line bad, whatever follows
pub bad-more : (line more : List ℕ) → is_good line ≡ false → is_good (line ++ more) ≡ false
bad-more line more bad = false_from_ne_true _ (λ good.
    let parts = good_parts line more good
    in both_ways _ bad (and_from _ _ (le-leb _ _ (omega (arith, parts.0))) parts.1))

bad-byte : (line : List ℕ) (byte : ℕ) → (nat_lt (length line) 512 && is_ascii byte) ≡ false
    → is_good (line ++ byte ∷ []) ≡ false
bad-byte line byte fails = false_from_ne_true _ (λ good.
    let parts = good_parts line (byte ∷ []) good in
    both_ways _ fails (and_from _ _ (lt-ltb _ _ (omega (arith, parts.0))) (and_parts _ true parts.2).0))

-- bytes were used, which begin a line
pub record OpensLine (old : InputState) (line : List ℕ) (now : InputState) : Type 0 where
  pub is_line : IsOneLine line
  pub took : Took (λ used. used ≡ line) old now
  pub open took use *
  -- a text ends with a line feed, and so not within a line
  pub closed : IfSome now.text (λ rest. rest ≡ [] → line ≡ [])
  pub place : now.place ≡ old.place
  pub lines : IfSome old.text
      (λ text. IsSomeAnd now.text (λ rest. now.lines ≡ lines_within old.lines old.place.line line))
  pub halves : now.halves ≡ old.halves
  pub count : now.bytes + length line ≡ old.bytes

-- a byte that makes the line bad was taken
pub OpensLine-bad : {old now mid new : InputState} {line : List ℕ} {byte : ℕ} (number : ℕ) → OpensLine old line now
    → TakesByte now byte mid → byte ≢ 10 → (nat_lt (length line) 512 && is_ascii byte) ≡ false
    → number ≡ old.place.line → new ≡ record mid { fault = Some (Line number faults.Word) }
    → MeetsBadLine old number new
OpensLine-bad {old = old} {now = now} {mid = mid} {line = line} {byte = byte} number opens takes other fails is_number
    is_new =
    rw is_new record {
      at = is_number;
      text = if_some_map _ _ old.text (λ text found. found.0) found;
      fault = refl;
      lines = if_some_map _ _ old.text (λ text found. found.1) found;
      failures = takes.failures ∙ opens.failures;
    }
  where
    used : Took (λ used. used ≡ line ++ byte ∷ []) old (noted mid byte)
    used = Took-join opens.took (took_byte takes) (λ front back is more. rw (is, more) refl)

    found : IfSome old.text (λ text. IsBadAt old text × (mid.lines ≡ number))
    found = told_behind used (λ rest. (rest ≡ [] → byte ≡ 10) × (mid.lines ≡ lines_with now.lines now.place.line rest))
        _
        (λ text rest uses facts.
        let more : length rest ≡ 0 → ⊥ = λ none. other (facts.0 (nil_from_length rest none)) in
        let some : 0 < length uses.used = rw uses.is (simp length-append (omega arith)) in
        let left : mid.bytes ≡ 0 → ⊥ = λ none. more (ap length (uses.room some none)) in (
          record {
            line = uses.used;
            rest = rest;
            whole = uses.whole;
            bad = rw uses.is (bad-byte line byte fails);
            one = rw uses.is (no_feed-more line byte opens.is_line.one (ne_eqb byte 10 other));
            within = omega (arith, uses.bytes);
          },
          facts.1 ∙ lines_with-some _ _ rest (omega arith) ∙ ap (λ (place : TextPlace). place.line) opens.place
              ∙ sym is_number,
        )) (if_some_both mid.text takes.last takes.lines (λ rest last lines. (last, lines)))

-- no byte more of a line could be read
pub line_stops : {old now : InputState} {line : List ℕ} (new : InputState) (fault : KeptFault) → OpensLine old line now
    → AnswersByte now (Err fault) new → AnswersLine old (Err fault) new
line_stops new Read opens answer = fails_to_read {Q = IsOneLine} opens.took answer (λ used is. rw is opens.is_line)
line_stops new TooMuch opens answer = has_too_many {Q = IsOneLine} opens.took answer (λ used is. rw is opens.is_line)
line_stops new fault opens answer = absurd answer

-- a line and its line feed leave the number of all lines
lines_of_line : (lines number : ℕ) (line rest : List ℕ) → has_line_feed line ≡ false
    → lines_through lines number (line ++ 10 ∷ rest) ≡ lines_through
    (lines_with (lines_within lines number line) number rest) (number + 1) rest
lines_of_line lines number [] rest one = refl
lines_of_line lines number (byte ∷ line) rest one =
    let parts = or_parts (eqb byte 10) (has_line_feed line) one in
    let first = lines_with-some lines number (line ++ 10 ∷ rest) (simp length-append (omega arith)) in
    let same : lines_within number number line ≡ number = lines_with-same number line in
    cc (parts.0, lines_of_line number number line rest parts.1)

-- these bytes are a line and its line feed, and a line that has bytes is the last that was used
abbrev pub IsThrough : InputState → InputState → List ℕ → List ℕ → Type 0
IsThrough old new line used = (used ≡ line ++ 10 ∷ []) × (0 < length line → new.lines + 1 ≡ new.place.line)

pub took_line : (old new : InputState) (number : ℕ) (line : List ℕ) → ReadsLine old number line new
    → Took (IsThrough old new line) old new
took_line old new number line ends = record {
  text = go old.text new.text ends.text ends.lines ends.room;
  bytes = omega (arith, ends.bytes);
  fault = ends.fault;
  failures = ends.failures;
}
  where
    next : new.place.line ≡ old.place.line + 1
    next = ap (λ (place : TextPlace). place.line) ends.next

    go : (x y : Option (List ℕ)) → Both x y (λ text rest. text ≡ line ++ 10 ∷ rest)
        → Both x y (λ text rest. new.lines
        ≡ lines_with (lines_within old.lines old.place.line line) old.place.line rest)
        → (new.bytes ≡ 0 → IsAtEnd y) → Both x y (Uses (IsThrough old new line) old new)
    go (Some text) (Some rest) whole lines end = record {
      used = line ++ 10 ∷ [];
      whole = whole ∙ sym (append_assoc line (10 ∷ []) rest);
      is = (
        refl,
        λ some.
            let first : lines_within old.lines old.place.line line ≡ old.place.line = lines_with-some _ _ line some in
            omega (arith, rw first at lines, lines_with-same old.place.line rest, next),
      );
      bytes = simp length-append (omega (arith, ends.bytes));
      room = λ some. end;
      lines = rw (lines, next, whole) (sym (lines_of_line old.lines old.place.line line rest ends.is_line.one));
      counts = λ some first more.
          rw (lines, next, lines_with-some _ old.place.line rest some, append_assoc line (10 ∷ []) (first ∷ more))
          (sym (lines_of_line old.lines old.place.line line (first ∷ more) ends.is_line.one));
    }
    go x y whole lines end = search rules
