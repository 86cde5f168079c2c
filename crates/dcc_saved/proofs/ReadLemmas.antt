-- How readers of a text follow one another.
use Rattle.std.proofs.Common.{◌≡◌, ℕ, ◌+◌, ◌-◌, ◌<◌, List, [], ◌∷◌, ◌++◌, length, take, Bool, true, false, eqb}
use Rattle.std.proofs.Common.{nat_le, Option, None, Some, Result, Ok, Err, refl, ap, ◌∙◌, arith}
use Rattle.std.proofs.Common.{append_assoc, length-append, ◌⊎◌, inl, inr, cond, IfSome, IsSomeAnd}
use Rattle.std.proofs.lemmas.List.{append-nil}
use Rattle.dcc_packet.specs.declared.fault.PacketFault.{PacketFault}
use Rattle.dcc_packet.specs.declared.fault.PacketFault.TheVariants as faults
use Rattle.dcc_packet.specs.Words.{words}
use Rattle.dcc_io.specs.declared.fault.KeptFault.{KeptFault}
use Rattle.dcc_io.specs.declared.fault.KeptFault.TheVariants.{Number, Line, Read, TooMuch}
use Rattle.dcc_io.specs.KeptAnswers.{KeepsFault}
use Rattle.dcc_io.specs.TextPlace.{lines_with}
use Rattle.dcc_io.specs.ReaderState.{IsAtEnd}
use Rattle.dcc_io.specs.InputState.{InputState, all_lines}
use Rattle.dcc_io.specs.Took.{Uses, Took}
use Rattle.dcc_io.specs.NextLine.{has_line_feed, lines_within, IsOneLine, ReadsLine, IsBadAt}
use Rattle.dcc_saved.specs.Inner.RequiredLine.{TakesLine}
use Rattle.dcc_saved.specs.Lines.{LineOf}
use Rattle.dcc_saved.specs.TextReader.{Text, Stop, Reader, read_on, ◌>>=◌, first_line, after_first_line}
use Rattle.dcc_saved.specs.TextReader.{line_verdict, ended_line, line_by}
use Rattle.dcc_saved.specs.TextReader.Stop.{cut, refused, too_many}
use Rattle.dcc_saved.specs.TextRead.{at, result_of, answer_at, answer_in, TextStopsAt, Leads, RefusesText, ReadsValue}
use Rattle.dcc_saved.specs.TextRead.{ContinuesAs, StopsAtDecoder, TextLinesAt}
use Rattle.dcc_io.proofs.TookLemmas.{if_some_map, map_text, Took-start, Took-map, Took-join, Stops-map}
use Rattle.dcc_io.proofs.TookLemmas.{same_cond, Stops-behind, within_limit-used, within_limit-front, overflows}
use Rattle.dcc_io.proofs.TookLemmas.{zero_fits, told_behind, LinesAt-behind}
use Rattle.dcc_io.proofs.PassedLemmas.{or_false}
use Rattle.dcc_io.proofs.LineLemmas.{bad-more, IsThrough, took_line}

-- nothing was read yet
pub Leads-start : {A : Type 0} (read : Reader A) (input : InputState) → input.fault ≡ None → Leads read input read input
Leads-start read input fault = record {
  took = Took-start input fault
      (record { goes_on = λ more. refl; last = λ some. absurd (omega arith); still = λ none. (refl, refl) });
  in_comment = refl;
  halves = refl;
}

-- what the search is given where nothing is read
pub ruleset begins = (Leads-start)

-- what stops a reader, in other words
Refuses-map : {A B : Type 0} (read : Reader A) (whole : Reader B) (old now new : InputState) (fault : KeptFault)
    → (TextStopsAt read now fault new → TextStopsAt whole old fault new) → RefusesText read now fault new
    → RefusesText whole old fault new
Refuses-map read whole old now new (Number line) each stops = stops
Refuses-map read whole old now new fault each stops = each stops

-- what is answered either way
cond-map : {A B : Type 0} (b : Bool) {x y : A} {z : B} {x' y' : B} {w : A} → (x ≡ w → x' ≡ z) → (y ≡ w → y' ≡ z)
    → cond b x y ≡ w → cond b x' y' ≡ z
cond-map true each other is = each is
cond-map false each other is = other is

-- what is answered of a text that begins with bytes which tell it
pub told_by : {A : Type 0} {P : List ℕ → Type 0} (read : Reader A) (old new : InputState) (x : Result A KeptFault)
    → Took P old new
    → ((used more : List ℕ) (last : Option KeptFault) → P used → answer_at read old (used ++ more) last ≡ x)
    → IfSome old.text (λ text. answer_in read old text ≡ x)
told_by read old new x took each =
    map_text _ (λ text. answer_in read old text ≡ x) old.text new.text
    (λ text rest uses.
    within_limit-used old new (answer_at read old) (λ more last. x) text rest uses
    (λ more last. each uses.used more last uses.is)
    ∙ same_cond (nat_le (length rest) new.bytes) x) took.text

-- an input that stood at the start of a line stands at one where the reader goes on
at_line_start : {A : Type 0} {read rest_read : Reader A} {old new : InputState} (used : List ℕ)
    → ContinuesAs read old rest_read new used → old.lines + 1 ≡ old.place.line → new.lines + 1 ≡ new.place.line
at_line_start [] goes start = let same = goes.still refl in omega (arith, same.0, same.1, start)
at_line_start (byte ∷ used) goes start = goes.last (omega arith)

module _ {A B : Type 0} (first : Reader A) (next : A → Reader B) {whole : Reader B} {old now : InputState}
    (leads : Leads whole old (first >>= next) now) where
  -- the first of two readers gave a value
  pub Leads-then : {new : InputState} {x : A} → ReadsValue first now (Ok x) new → Leads whole old (next x) new
  Leads-then {new = new} value = record {
    took = Took-join leads.took value.took (λ front back before behind.
        record {
          goes_on = λ more. rw (append_assoc, before.goes_on, behind.goes_on) refl;
          last = λ some. grind (arith, length-append front back);
          still = λ none. grind (arith, length-append front back);
        });
    in_comment = value.in_comment ∙ leads.in_comment;
    halves = value.halves ∙ leads.halves;
  }

  -- where the first of two readers stops, both stop
  stops : (last : Option KeptFault) (fault : KeptFault) (read : Result (A × Text) Stop)
      → result_of last read ≡ Err fault → result_of last (read_on read next) ≡ Err fault
  stops last fault (Ok read) says = cc
  stops last fault (Err stop) says = cc

  stops_at_decoder : (read : Result (A × Text) Stop) (line : ℕ) → StopsAtDecoder read line
      → StopsAtDecoder (read_on read next) line
  stops_at_decoder (Ok read) line stops = absurd stops
  stops_at_decoder (Err (refused n why)) line stops = absurd stops
  stops_at_decoder (Err (cut n)) line stops = absurd stops
  stops_at_decoder (Err (too_many n)) line stops = stops

  -- the lines that were used where the first of two readers stops, told of both
  lines_behind : (new : InputState) (fault : KeptFault) → TextLinesAt first now fault new
      → TextLinesAt whole old fault new
  lines_behind new (Line line why) (inl lines) = inl (LinesAt-behind leads.took new (Line line why) lines)
  lines_behind new (Line line why) (inr (at_end, all, last)) =
      inr (
        at_end,
        told_behind leads.took _ _ (λ text rest uses same. same ∙ uses.lines) all,
        told_behind leads.took _ _ (λ text rest uses last start. last (at_line_start uses.used uses.is start)) last,
      )
  lines_behind new TooMuch (inl lines) = inl (LinesAt-behind leads.took new TooMuch lines)
  lines_behind new TooMuch (inr stops) =
      inr (told_behind leads.took _ _
      (λ text rest uses stops. rw (uses.whole, uses.is.goes_on rest)
      (stops_at_decoder (first (at now rest)) (new.lines + 1) stops)) stops)
  lines_behind new fault lines = LinesAt-behind leads.took new fault lines

  pub Answers-fault : (new : InputState) (fault : KeptFault) → ReadsValue first now (Err fault) new
      → ReadsValue whole old (Err fault) new
  Answers-fault new fault stop = (
    Refuses-map first whole old now new fault
        (λ h. Stops-behind leads.took _ _ _ _ new fault h
        (λ front back before fails. rw before.goes_on (stops (Some Read) Read (first (at now back)) fails))
        (λ text rest uses says.
        within_limit-used old now (answer_at whole old) (answer_at (first >>= next) now) text rest uses
        (λ more last. ap (result_of last) (uses.is.goes_on more))
        ∙ cond-map (nat_le (length rest) now.bytes) (stops None fault (first (at now rest)))
        (stops (Some TooMuch) fault (first (at now (take (now.bytes - 1) rest)))) says))
        stop.0,
    stop.1,
    lines_behind new fault stop.2,
  )

-- bytes without a line feed begin the first line
line-parts : (line rest : List ℕ) → has_line_feed line ≡ false
    → (first_line (line ++ rest) ≡ line ++ first_line rest) × (after_first_line (line ++ rest) ≡ after_first_line rest)
line-parts [] rest one = (refl, refl)
line-parts (byte ∷ line) rest one =
    let here = or_false (eqb byte 10) (has_line_feed line) one in
    let parts = line-parts line rest here.1 in
    rw (here.0, parts.0, parts.1) (refl, refl)

module _ {A : Type 0} (line_is : LineOf A) where
  -- the front of a line, and what follows it
  line-front : (n : ℕ) (line rest : List ℕ) → IsOneLine line → first_line rest ≡ []
      → line_by line_is (record { line = n; bytes = line ++ rest }) ≡ ended_line line_is n line (after_first_line rest)
  line-front n line rest is_line ends =
      let parts = line-parts line rest is_line.one in rw (parts.0, parts.1, ends, append-nil, is_line.good) refl

  -- a line that has not ended
  line-cut : (n : ℕ) (line : List ℕ) → IsOneLine line → line_by line_is (record { line = n; bytes = line })
      ≡ Err (cut n)
  line-cut n line is_line = rw append-nil at (line-front n line [] is_line refl)

  -- a line that is bad from its first bytes on, or none
  missed_text : (old : InputState) (text : List ℕ) → IsBadAt old text ⊎ (text ≡ [])
      → answer_in (line_by line_is) old text ≡ Err (Line old.place.line faults.Word)
  missed_text old text (inl bad) =
      within_limit-front old (answer_at (line_by line_is) old) _ text bad.line bad.rest bad.whole bad.within
      (λ more last. rw ((line-parts bad.line more bad.one).0, bad-more bad.line (first_line more) bad.bad) refl)
  missed_text old text (inr none) = rw (none, zero_fits old.bytes) refl

  -- a line that was not taken
  pub line-missed : (old new : InputState) (fault : KeptFault) → TakesLine old (Err fault) new
      → ReadsValue (line_by line_is) old (Err fault) new
  line-missed old new (Line n why) h =
      rw (h.0, h.1) ((h.2.failures, if_some_map _ _ old.text (missed_text old) h.2.text), h.2.fault, h.2.lines)
  line-missed old new TooMuch h = (
    overflows IsOneLine (answer_at (line_by line_is) old) (Err TooMuch) old new h.0
        (λ used is_line. ap (result_of (Some TooMuch)) (line-cut old.place.line used is_line)),
    h.1,
    inl h.2,
  )
  line-missed old new Read h = (
    Stops-map IsOneLine _ (λ text. Unit {0}) (λ text. Unit {0}) old new Read h.0
        (λ used is_line. ap (result_of (Some Read)) (line-cut old.place.line used is_line)) (λ text none. none),
    h.1,
    h.2,
  )
  line-missed old new (Number n) h = absurd h

  module _ (blank : line_is.read [] ≡ Err faults.Word) (old mid : InputState) (n : ℕ) (line : List ℕ)
      (ends : ReadsLine old n line mid) where
    -- what is said of the line, whatever follows it
    given : (used more : List ℕ) → IsThrough old mid line used
        → line_by line_is (at old (used ++ more)) ≡ line_verdict old.place.line (line_is.read (words line)) more
    given used more through =
        rw (through.0, append_assoc) (line-front old.place.line line (10 ∷ more) ends.is_line refl)

    -- a line that has a value
    pub line-read : (x : A) → Ok x ≡ line_is.read (words line) → ReadsValue (line_by line_is) old (Ok x) mid
    line-read x is = record {
      took = Took-map (took_line old mid n line ends) (λ used through. record {
        goes_on = λ more. given used more through ∙ rw (← is, ends.next) refl;
        last = λ some. through.1 (some_bytes line is);
        still = λ none.
            let lengths = ap length through.0 ∙ length-append line (10 ∷ []) in absurd (omega (arith, none, lengths));
      });
      in_comment = rw ends.next refl;
      halves = ends.halves;
    }
      where
        some_bytes : (front : List ℕ) → Ok x ≡ line_is.read (words front) → 0 < length front
        some_bytes [] is = cc
        some_bytes (byte ∷ front) is = omega arith

    -- the line is the last that was used, or the text has ended
    on_line : (line : List ℕ) (x y : Option (List ℕ))
        → IfSome x
        (λ text. IsSomeAnd y
        (λ rest. mid.lines ≡ lines_with (lines_within old.lines old.place.line line) old.place.line rest))
        → IfSome x (λ text. IsSomeAnd y (λ rest. Uses (IsThrough old mid line) old mid text rest))
        → IfSome x (λ text. mid.lines ≡ old.place.line)
        ⊎ (IsAtEnd y × IfSome x (λ text. mid.lines ≡ all_lines old text)
        × IfSome x (λ text. old.lines + 1 ≡ old.place.line → old.place.line ≡ mid.lines + 1))
    on_line line None y lines uses = inl tt
    on_line line (Some text) None lines uses = absurd lines
    on_line [] (Some text) (Some []) lines uses = inr (refl, uses.lines, λ start. omega (arith, lines, start))
    on_line (byte ∷ line) (Some text) (Some []) lines uses = inl lines
    on_line line (Some text) (Some (next ∷ rest)) lines uses = inl lines

    -- a line that is refused
    pub line-refused : (why : PacketFault) (new : InputState) (fault : KeptFault) → Err why ≡ line_is.read (words line)
        → KeepsFault mid (Line n why) fault new → ReadsValue (line_by line_is) old (Err fault) new
    line-refused why new fault is keeps =
        let took = took_line old mid n line ends in
        rw (keeps.0, keeps.1, ends.at) (
          (
            ends.failures,
            told_by (line_by line_is) old mid (Err (Line old.place.line why)) took
                (λ used more last through. ap (result_of last) (given used more through) ∙ rw (← is) refl),
          ),
          refl,
          on_line line old.text mid.text ends.lines took.text,
        )
