-- What lines say of packets, or of anything else, read one after the other.
use Rattle.std.proofs.Common.{◌≡◌, ℕ, ◌+◌, List, [], ◌∷◌, ◌++◌, length, true, false, eqb, ◌<◌, arith, inl, inr, Option}
use Rattle.std.proofs.Common.{Some, Ok, Err, refl, ap, ◌∙◌, append_assoc, None, Result}
use Rattle.std.proofs.lemmas.Bool.{cases_Bool}
use Rattle.std.proofs.lemmas.List.{append-nil}
use Rattle.dcc_packet.specs.declared.fault.PacketFault.{PacketFault}
use Rattle.dcc_packet.specs.declared.fault.PacketFault.TheVariants as faults
use Rattle.dcc_packet.specs.Words.{words}
use Rattle.dcc_io.specs.declared.fault.KeptFault.{KeptFault}
use Rattle.dcc_io.specs.declared.fault.KeptFault.TheVariants.{Line, Read, TooMuch, Number}
use Rattle.dcc_io.specs.TextPlace.{TextPlace}
use Rattle.dcc_io.specs.InputState.{InputState}
use Rattle.dcc_io.specs.NumberedLines.{NumberedLine, lines_from, onto_first_line, is_good}
use Rattle.dcc_io.specs.NextLine.{has_line_feed, IsOneLine, ReadsLine, MeetsBadLine, AnswersLine}
use Rattle.dcc_io.specs.Took.{Uses, LinesAt}
use Rattle.dcc_io.specs.Items.{Items, items_behind, only_fault, Gave, StopsAt}
use Rattle.dcc_io.specs.PacketLines.{is_skipped, Saying, behind_line, items_of, lines_by}
use Rattle.dcc_io.proofs.TookLemmas.{if_some_map, map_text, within_limit-stops, Took-map, Stops-map, within_limit-front}
use Rattle.dcc_io.proofs.TookLemmas.{overflows, LinesAt-behind}
use Rattle.dcc_io.proofs.PassedLemmas.{or_false}
use Rattle.dcc_io.proofs.LineLemmas.{bad-more, IsThrough, took_line}
use Rattle.dcc_io.specs.declared.text_line.TextLine.{TextLine}
use Rattle.dcc_io.specs.PacketRead.{AnswersSaid, ReadsSaid}
use Rattle.dcc_io.proofs.ItemsLemmas.{Gave-append, StopsAt-behind}

abbrev numbered : ℕ → List ℕ → NumberedLine
numbered number bytes = record { number = number; bytes = bytes }

-- bytes of one line go on as the first line of what follows them
lines_from-front : (number : ℕ) (line rest tail : List ℕ) (others : List NumberedLine) → has_line_feed line ≡ false
    → lines_from number rest ≡ numbered number tail ∷ others
    → lines_from number (line ++ rest) ≡ numbered number (line ++ tail) ∷ others
lines_from-front number [] rest tail others one is = is
lines_from-front number (byte ∷ line) rest tail others one is =
    let parts = or_false (eqb byte 10) (has_line_feed line) one in
    rw parts.0 (ap (onto_first_line byte) (lines_from-front number line rest tail others parts.1 is))

-- a text has a first line
begins : (number : ℕ) (text : List ℕ)
    → (bytes : List ℕ) × (others : List NumberedLine) × (lines_from number text ≡ numbered number bytes ∷ others)
begins number [] = ([], [], refl)
begins number (byte ∷ text) = elim (cases_Bool (eqb byte 10)) [
  | inl e ↦ ([], lines_from (number + 1) text, rw e refl)
  | inr e ↦ let rest = begins number text in (byte ∷ rest.0, rest.1, rw e (ap (onto_first_line byte) rest.2))
]

said_some : (line : List ℕ) → is_skipped line ≡ false → 0 < length line
said_some [] says = cc
said_some (byte ∷ line) says = omega arith

module _ {A B : Type 0} (saying : Saying A B) where
  -- no item can be taken before this fault, which is kept, and its lines are used
  abbrev pub Stopped : InputState → KeptFault → InputState → Type 0
  Stopped old fault new = StopsAt (lines_by saying) old fault new × (new.fault ≡ Some fault) × LinesAt old fault new

  items_of-bad : (line : NumberedLine) (others : List NumberedLine) (last : Option KeptFault)
      → is_good line.bytes ≡ false
      → items_of saying (line ∷ others) last ≡ only_fault (Some (Line line.number faults.Word))
  items_of-bad line [] last bad = rw bad refl
  items_of-bad line (next ∷ others) last bad = rw bad refl

  module _ {old mid : InputState} {number : ℕ} {line : List ℕ} (ends : ReadsLine old number line mid) where
    -- what an input says from a line on
    from_line : (more : List ℕ) (last : Option KeptFault)
        → lines_by saying old ((line ++ 10 ∷ []) ++ more) last ≡ behind_line saying (numbered old.place.line line)
        (lines_by saying mid more last)
    from_line more last =
        let front = rw (append-nil line) at
        (lines_from-front old.place.line line (10 ∷ more) [] _ ends.is_line.one refl) in
        let next = begins (old.place.line + 1) more in
        rw (append_assoc line (10 ∷ []) more, front, ends.next, next.2) refl

    -- a line that says these items was taken
    gave_line : (items : List A)
        → ((rest : Items A) → behind_line saying (numbered old.place.line line) rest ≡ items_behind items rest)
        → Gave (lines_by saying) old items mid
    gave_line items says =
        Took-map (took_line old mid number line ends)
        (λ used is more last. rw is.0 (from_line more last ∙ says (lines_by saying mid more last)))

    -- a line that says nothing
    pub Gave-skipped : is_skipped line ≡ true → Gave (lines_by saying) old [] mid
    Gave-skipped skipped = gave_line [] (λ rest. rw (ends.is_line.good, skipped) refl)

    -- a line whose words say this
    pub Gave-said : (says : B) → is_skipped line ≡ false → saying.said (words line) ≡ Ok says
        → Gave (lines_by saying) old (saying.items says) mid
    Gave-said says some is = gave_line (saying.items says) (λ rest. rw (ends.is_line.good, some, is) refl)

    -- a line whose words are refused
    pub stops_at_words : {new : InputState} {fault : PacketFault} → is_skipped line ≡ false
        → saying.said (words line) ≡ Err fault → new ≡ record mid { fault = Some (Line number fault) }
        → Stopped old (Line number fault) new
    stops_at_words {fault = fault} some says is_new =
        let took = took_line old mid number line ends in
        rw is_new (
          (
            ends.failures,
            within_limit-stops (lines_by saying old) (only_fault (Some (Line number fault))) took (λ used more last is.
                rw is.0 (from_line more last ∙ rw (ends.is_line.good, some, says, ends.at) refl)),
          ),
          refl,
          map_text (Uses (IsThrough old mid line) old mid) _ old.text mid.text (λ text rest uses.
              omega (arith, uses.is.1 (said_some line some), ap (λ (place : TextPlace). place.line) ends.next, ends.at))
              took.text,
        )

  -- a line that is bad at its last byte so far
  pub stops_at_bad_line : (old new : InputState) (number : ℕ) → MeetsBadLine old number new
      → Stopped old (Line number faults.Word) new
  stops_at_bad_line old new number meets = (
    (
      meets.failures,
      if_some_map _ _ old.text (λ text bad.
          within_limit-front old (lines_by saying old) _ text bad.line bad.rest bad.whole bad.within (λ more last.
          let first = begins old.place.line more in
          rw (lines_from-front _ bad.line more first.0 first.1 bad.one first.2, meets.at)
          (items_of-bad (numbered _ (bad.line ++ first.0)) first.1 last (bad-more bad.line first.0 bad.bad))))
          meets.text,
    ),
    meets.fault,
    meets.lines,
  )

  open_says : (number : ℕ) (line : List ℕ) (last : Option KeptFault) → IsOneLine line
      → items_of saying (lines_from number line) last ≡ only_fault last
  open_says number line last is_line =
      let alone = rw (append-nil line) at (lines_from-front number line [] [] [] is_line.one refl) in
      rw (alone, is_line.good) refl

module _ {A B C : Type 0} (saying : Saying A B) (as_said : C → B) where
  -- told from further back, where nothing was said in between
  behind_said : {old now : InputState} (new : InputState) (fault : KeptFault) → Gave (lines_by saying) old [] now
      → Stopped saying now fault new → Stopped saying old fault new
  behind_said new fault gave stops =
      (StopsAt-behind (lines_by saying) _ _ new fault gave stops.0, stops.1, LinesAt-behind gave new fault stops.2)

  -- a line that says nothing was passed
  pub Gave-passed : {old now new : InputState} {number : ℕ} {line : List ℕ} → Gave (lines_by saying) old [] now
      → ReadsLine now number line new → is_skipped line ≡ true → Gave (lines_by saying) old [] new
  Gave-passed gave ends skipped =
      Gave-append (lines_by saying) _ _ _ [] [] gave (Gave-skipped saying ends skipped)

  -- a line with words was read
  pub answers_said : {old now mid : InputState} (new : InputState) (line : TextLine)
      (result : Result (Option C) KeptFault)
      → Gave (lines_by saying) old [] now → ReadsLine now line.number line.text.bytes mid
      → is_skipped line.text.bytes ≡ false → ReadsSaid saying as_said mid line result new
      → AnswersSaid saying as_said old result new
  answers_said new line (Ok (Some says)) gave ends some reads =
      let bytes = gave.bytes in
      rw reads.1 (
        Gave-append (lines_by saying) _ _ _ [] (saying.items (as_said says)) gave
            (Gave-said saying ends (as_said says) some reads.0),
        omega (arith, ends.bytes, bytes),
      )
  answers_said new line (Ok None) gave ends some reads = absurd reads
  answers_said new line (Err answer) gave ends some reads =
      rw reads.1 (behind_said new (Line line.number reads.0) gave (stops_at_words saying ends some reads.2 reads.3))

  -- a line with words was taken
  pub answers_line : {old new : InputState} {line : List ℕ} (says : C) → ReadsLine old old.place.line line new
      → is_skipped line ≡ false → saying.said (words line) ≡ Ok (as_said says)
      → AnswersSaid saying as_said old (Ok (Some says)) new
  answers_line says ends some is = (Gave-said saying ends (as_said says) some is, omega (arith, ends.bytes))

  -- no line more could be read
  pub answers_fault : {old now : InputState} (new : InputState) (fault : KeptFault) → Gave (lines_by saying) old [] now
      → AnswersLine now (Err fault) new → AnswersSaid saying as_said old (Err fault) new
  answers_fault new (Number line) gave answer = absurd answer
  answers_fault {now = now} new (Line line why) gave answer =
      rw answer.0 (behind_said new (Line line faults.Word) gave (stops_at_bad_line saying now new line answer.1))
  answers_fault {now = now} new Read gave answer = behind_said new Read gave (
    Stops-map IsOneLine _ (λ text. Unit {0}) (λ text. Unit {0}) now new Read answer.0
        (λ used. open_says saying now.place.line used (Some Read)) (λ text none. none),
    answer.1,
    answer.2,
  )
  answers_fault {now = now} new TooMuch gave answer = behind_said new TooMuch gave (
    overflows IsOneLine (lines_by saying now) _ now new answer.0
        (λ used. open_says saying now.place.line used (Some TooMuch)),
    answer.1,
    answer.2,
  )
