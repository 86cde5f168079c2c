-- How the lines of a capture are written.
use Rattle.std.proofs.Common.{◌≡◌, ℕ, ◌+◌, ◌-◌, List, [], ◌++◌, length, replicate, Option}
use Rattle.std.proofs.Common.{None, Some, Result, Ok, Err, inl, inr, refl, sym, ap, ◌∙◌, subst, arith, length-append}
use Rattle.std.proofs.Common.{IfSome, IsSomeAnd, append_assoc}
use Rattle.std.proofs.lemmas.List.{append-nil, length-replicate}
use Rattle.dcc_io.specs.declared.word.Run.{Run}
use Rattle.dcc_io.specs.declared.fault.KeptFault.{KeptFault}
use Rattle.dcc_io.specs.declared.fault.KeptFault.TheVariants.{Number, Line, Read, TooMuch}
use Rattle.dcc_io.specs.declared.fault.ToolFault.{ToolFault}
use Rattle.dcc_io.specs.declared.fault.ToolFault.TheVariants.{Write}
use Rattle.dcc_io.specs.Failures.{HasRisen}
use Rattle.dcc_io.specs.Calls.{ReadsTo}
use Rattle.dcc_io.specs.Faults.{as_tool_fault}
use Rattle.dcc_io.specs.InputState.{InputState}
use Rattle.dcc_io.specs.WriterState.{WriterState}
use Rattle.dcc_io.specs.WrittenBytes.{AppendsFront}
use Rattle.dcc_io.specs.Items.{Items, Gives, StopsAt}
use Rattle.dcc_io.specs.Held.{Holds}
use Rattle.dcc_io.proofs.CallLemmas.{gives_up}
use Rattle.dcc_io.proofs.ItemsLemmas.{Gave-none, Gave-append, in_whole, up_to_fault, reads_up_to, uses_all_lines}
use Rattle.dcc_io.proofs.HeldLemmas.{Holds-same, Holds-wrote, Holds-append, Holds-fails, Holds-fails_with, Holds-rest}
use Rattle.dcc_capture.specs.Capture.{captures, capture_in, GaveHalves, AnswersRun, IsOfCapture, CaptureLinesAt}
use Rattle.dcc_capture.specs.HeldRuns.{WritesRest}
use Rattle.dcc_capture.specs.Listing.{AreLines}
use Rattle.dcc_capture.specs.Shown.{StopsWriting, WritesLines, WritesFrontOfLines, WritesLinesOfCapture}
use Rattle.dcc_capture.proofs.CaptureLemmas.{CaptureLinesAt-behind}
use Rattle.dcc_capture.proofs.ListingLaws.{AreLines-append}

-- so far the lines of the items of these halves were written, but for what is held
pub record Listing {A : Type 0} (IsLineOf : ℕ → A → List ℕ → Type 0) (items : List ℕ → List (ℕ × A))
    (Follows : List ℕ → Type 0) (start now : InputState) (held : List ℕ) (before after : WriterState) : Type 0 where
  pub halves : List ℕ
  pub gave : GaveHalves start halves now
  pub stands : Follows halves
  pub text : List ℕ
  pub lists : AreLines IsLineOf (items halves) text
  pub holds : Holds before after text held
  pub failures : after.failures ≡ before.failures

-- more halves only add items
abbrev pub OnlyAdds : {A : Type 0} → (List ℕ → List (ℕ × A)) → Type 0
OnlyAdds {A} items =
    (halves more : List ℕ) → (later : List (ℕ × A)) × (items (halves ++ more) ≡ items halves ++ later)

pub GaveHalves-none : (input : InputState) → input.fault ≡ None → GaveHalves input [] input
GaveHalves-none input fault = record { items = Gave-none captures input fault; left = omega arith }

pub GaveHalves-append : (old mid new : InputState) (first second : List ℕ) → GaveHalves old first mid
    → GaveHalves mid second new → GaveHalves old (first ++ second) new
GaveHalves-append old mid new first second a b =
    record {
      items = Gave-append captures old mid new first second a.items b.items;
      left = simp length-append (omega (arith, a.left, b.left));
    }

-- no run could be taken before this fault, which is one of a capture
pub stops_at_run_fault : (now new : InputState) (fault : KeptFault) → AnswersRun now (Err fault) new
    → StopsAt captures now fault new × (new.fault ≡ Some fault) × IsOfCapture fault × CaptureLinesAt now fault new
stops_at_run_fault now new (Line line fault) answer = absurd answer
stops_at_run_fault now new (Number line) answer = (answer.0, answer.1, tt, answer.2)
stops_at_run_fault now new Read answer = (answer.0, answer.1, tt, answer.2)
stops_at_run_fault now new TooMuch answer = (answer.0, answer.1, tt, answer.2)

nothing_behind : {start now : InputState} (halves : List ℕ) → GaveHalves start halves now
    → GaveHalves start (halves ++ []) now
nothing_behind {start} {now} halves gave =
    subst (λ (halves : List ℕ). GaveHalves start halves now) (sym (append-nil halves)) gave

module _ {A : Type 0} (IsLineOf : ℕ → A → List ℕ → Type 0) (items : List ℕ → List (ℕ × A)) where
  -- a front of the lines of some halves is one of the lines of all that the input gives
  front_of_all : OnlyAdds items → {start now : InputState} (halves more text : List ℕ) {before after : WriterState}
      → GaveHalves start (halves ++ more) now → AreLines IsLineOf (items halves) text → AppendsFront before after text
      → IfSome start.text (λ whole. WritesFrontOfLines IsLineOf before after (items (capture_in start whole).said))
  front_of_all adds {start} {now} halves more text {before} {after} gave lists wrote =
      go start.text now.text gave.items.text
    where
      go : (whole rest : Option (List ℕ))
          → IfSome whole (λ all. IsSomeAnd rest (λ behind. Gives captures start (halves ++ more) now all behind))
          → IfSome whole (λ all. WritesFrontOfLines IsLineOf before after (items (capture_in start all).said))
      go None rest gives = tt
      go (Some all) None gives = absurd gives
      go (Some all) (Some rest) gives =
          let grown = adds halves (more ++ (capture_in now rest).said) in record {
            shown = items halves;
            later = grown.0;
            whole =
                ap (λ (found : Items ℕ). items found.said) (in_whole captures start now (halves ++ more) all rest gives)
                ∙ ap items (append_assoc halves more (capture_in now rest).said) ∙ grown.1;
            text = text;
            lists = lists;
            written = wrote;
          }

  -- what stands where a write failed, and no fault was found
  stops_writing_at : OnlyAdds items → {start now : InputState} (new : InputState) (halves more text : List ℕ)
      {before : WriterState} (after : WriterState) {then : WriterState} → GaveHalves start (halves ++ more) now
      → new.fault ≡ None → new.failures ≡ now.failures → after.failures ≡ before.failures
      → AreLines IsLineOf (items halves) text → AppendsFront before then text → HasRisen after.failures then.failures
      → WritesLinesOfCapture IsLineOf items start before (Err Write) new then
  stops_writing_at adds new halves more text after gave fault failures same lists wrote risen =
      (rw fault (front_of_all adds halves more text gave lists wrote, failures ∙ gave.items.failures), rw same at risen)

module _ {A : Type 0} {IsLineOf : ℕ → A → List ℕ → Type 0} {items : List ℕ → List (ℕ × A)} where
  pub Listing-start : {Follows : List ℕ → Type 0} {start : InputState} {before : WriterState} → items [] ≡ []
      → start.fault ≡ None → Follows [] → Listing IsLineOf items Follows start start [] before before
  Listing-start {before = before} none fault stands = record {
    halves = [];
    gave = GaveHalves-none _ fault;
    stands = stands;
    text = [];
    lists = rw none refl;
    holds = Holds-same before [];
    failures = refl;
  }

  module _ {Follows : List ℕ → Type 0} {start : InputState} {before : WriterState} where
    -- some of what was held was written
    pub Listing-wrote : {now : InputState} {held left : List ℕ} {after then : WriterState}
        → Listing IsLineOf items Follows start now held before after → Holds after then held left
        → then.failures ≡ after.failures → Listing IsLineOf items Follows start now left before then
    Listing-wrote listing wrote same = record {
      halves = listing.halves;
      gave = listing.gave;
      stands = listing.stands;
      text = listing.text;
      lists = listing.lists;
      holds = Holds-wrote _ _ _ _ _ _ listing.holds wrote;
      failures = same ∙ listing.failures;
    }

    module _ {now new : InputState} {held : List ℕ} {after : WriterState} (given : List ℕ)
        (listing : Listing IsLineOf items Follows start now held before after) (gave : GaveHalves now given new) where
      -- how many halves were taken, from how many may be taken before the first and behind these
      pub counted_halves : {most left : ℕ} → most ≡ start.halves → left ≡ new.halves
          → most - left ≡ length listing.halves + length given
      counted_halves first behind = omega (arith, listing.gave.left, gave.left)

      all : GaveHalves start (listing.halves ++ given) new
      all = GaveHalves-append start now new listing.halves given listing.gave gave

      -- more halves add the lines of their items
      lists_more : (some line : List ℕ) (more : List (ℕ × A)) → items (listing.halves ++ some) ≡ items listing.halves
          ++ more
          → AreLines IsLineOf more line → AreLines IsLineOf (items (listing.halves ++ some)) (listing.text ++ line)
      lists_more some line more adds here =
          rw adds (AreLines-append IsLineOf (items listing.halves) more listing.text line listing.lists here)

      pub Listing-halves : {Next : List ℕ → Type 0} (line : List ℕ) {left : List ℕ} {then : WriterState}
          (more : List (ℕ × A)) → Next (listing.halves ++ given)
          → items (listing.halves ++ given) ≡ items listing.halves ++ more
          → AreLines IsLineOf more line → Holds after then (held ++ line) left → then.failures ≡ after.failures
          → Listing IsLineOf items Next start new left before then
      Listing-halves line more stands adds here wrote same = record {
        halves = listing.halves ++ given;
        gave = all;
        stands = stands;
        text = listing.text ++ line;
        lists = lists_more given line more adds here;
        holds = Holds-append _ _ _ _ _ _ _ listing.holds wrote;
        failures = same ∙ listing.failures;
      }

      -- a write failed where lines of the first halves of these were to be held
      pub stops_at_halves : OnlyAdds items → {then : WriterState} (some rest line : List ℕ) (more : List (ℕ × A))
          → given ≡ some ++ rest → items (listing.halves ++ some) ≡ items listing.halves ++ more
          → AreLines IsLineOf more line → AppendsFront after then (held ++ line) → HasRisen after.failures then.failures
          → WritesLinesOfCapture IsLineOf items start before (Err Write) new then
      stops_at_halves grows some rest line more cut adds here wrote risen =
          let whole : GaveHalves start ((listing.halves ++ some) ++ rest) new =
          subst (λ (halves : List ℕ). GaveHalves start halves new)
          (ap (λ (l : List ℕ). listing.halves ++ l) cut ∙ sym (append_assoc listing.halves some rest)) all in
          stops_writing_at IsLineOf items grows _ (listing.halves ++ some) rest (listing.text ++ line) after whole
          whole.items.fault refl
          listing.failures (lists_more some line more adds here) (Holds-fails_with _ _ _ _ _ _ listing.holds wrote)
          risen

    module _ {now new : InputState} {held : List ℕ} {after : WriterState} (run : Run)
        (listing : Listing IsLineOf items Follows start now held before after)
        (gave : GaveHalves now (replicate run.n run.us) new) where
      pub counted : {most left : ℕ} → most ≡ start.halves → left ≡ new.halves
          → most - left ≡ length listing.halves + run.n
      counted first behind =
          counted_halves (replicate run.n run.us) listing gave first behind
          ∙ ap (λ n. length listing.halves + n) (length-replicate run.n run.us)

      -- one more run adds the lines of its items
      pub Listing-run : {Next : List ℕ → Type 0} (line : List ℕ) {left : List ℕ} {then : WriterState}
          (more : List (ℕ × A)) → Next (listing.halves ++ replicate run.n run.us)
          → items (listing.halves ++ replicate run.n run.us) ≡ items listing.halves ++ more
          → AreLines IsLineOf more line → Holds after then (held ++ line) left → then.failures ≡ after.failures
          → Listing IsLineOf items Next start new left before then
      Listing-run = Listing-halves (replicate run.n run.us) listing gave

      pub stops_at_run : OnlyAdds items → {then : WriterState} (some rest line : List ℕ) (more : List (ℕ × A))
          → replicate run.n run.us ≡ some ++ rest → items (listing.halves ++ some) ≡ items listing.halves ++ more
          → AreLines IsLineOf more line → AppendsFront after then (held ++ line) → HasRisen after.failures then.failures
          → WritesLinesOfCapture IsLineOf items start before (Err Write) new then
      stops_at_run = stops_at_halves (replicate run.n run.us) listing gave

    module _ {now : InputState} {held : List ℕ} {after then : WriterState}
        (listing : Listing IsLineOf items Follows start now held before after) where
      -- a write of what was held failed
      pub stops_before_read : OnlyAdds items → AppendsFront after then held → HasRisen after.failures then.failures
          → WritesLinesOfCapture IsLineOf items start before (Err Write) now then
      stops_before_read grows wrote risen =
          stops_writing_at IsLineOf items grows now listing.halves [] _ after
          (nothing_behind listing.halves listing.gave) listing.gave.items.fault refl listing.failures
          listing.lists (Holds-fails _ _ _ _ _ listing.holds wrote) risen

      -- all before a fault was listed, or a front of it
      pub stops_at_fault : (new : InputState) (fault : KeptFault) {result : Result (Unit {0}) ToolFault}
          → AnswersRun now (Err fault) new → WritesRest after held (Err (as_tool_fault fault)) result then
          → WritesLinesOfCapture IsLineOf items start before result new then
      stops_at_fault new fault answer (inl wrote) =
          let stops = stops_at_run_fault now new fault answer in
          let fact : List ℕ → Type 0 = λ halves. WritesLines IsLineOf before then (items halves) in
          rw wrote.0 (gives_up (λ kept. (IsOfCapture kept × ReadsTo captures start kept new fact
          × CaptureLinesAt start kept new)
          × (then.failures ≡ before.failures)) _ _ fault (
            (
              stops.2,
              record {
                kept = stops.1;
                items = reads_up_to captures start now new fault listing.halves fact listing.gave.items stops.0
                    (listing.text, listing.lists, Holds-rest before after then _ _ listing.holds wrote.1);
              },
              CaptureLinesAt-behind start now new listing.halves fault listing.gave.items stops.3,
            ),
            wrote.2 ∙ listing.failures,
          ))
      stops_at_fault new fault answer (inr failed) =
          let stops = stops_at_run_fault now new fault answer in
          let fact : List ℕ → Type 0 = λ halves. WritesFrontOfLines IsLineOf before then (items halves) in
          let front : fact listing.halves = record {
            shown = items listing.halves;
            later = [];
            whole = sym (append-nil (items listing.halves));
            text = listing.text;
            lists = listing.lists;
            written = Holds-fails _ _ _ _ _ listing.holds failed.1;
          } in
          rw failed.0 (
            subst (λ (kept : Option KeptFault). StopsWriting start kept new fact) (sym stops.1) (
              reads_up_to captures start now new fault listing.halves fact listing.gave.items stops.0 front,
              CaptureLinesAt-behind start now new listing.halves fault listing.gave.items stops.3,
            ),
            rw listing.failures at failed.2,
          )

      pub stops_at_end : OnlyAdds items → {new : InputState} {result : Result (Unit {0}) ToolFault}
          → AnswersRun now (Ok None) new → WritesRest after held (Ok tt) result then
          → WritesLinesOfCapture IsLineOf items start before result new then
      stops_at_end grows {new = new} answer (inl wrote) =
          let all = answer.0 in
          rw wrote.0 (
            record {
              items = (
                up_to_fault captures start now listing.halves None
                    (λ halves. WritesLines IsLineOf before then (items halves)
                    × (new.halves + length halves ≡ start.halves))
                    listing.gave.items answer.2 (
                      (listing.text, listing.lists, Holds-rest before after then _ _ listing.holds wrote.1),
                      omega (arith, listing.gave.left, all.left),
                    ),
                all.items.failures ∙ listing.gave.items.failures,
              );
              at_end = answer.1;
              lines = uses_all_lines captures start new (listing.halves ++ [])
                  (Gave-append captures start now new listing.halves [] listing.gave.items all.items) answer.1;
              fault = all.items.fault;
            },
            wrote.2 ∙ listing.failures,
          )
      stops_at_end grows {new = new} answer (inr failed) =
          rw failed.0 (stops_writing_at IsLineOf items grows new listing.halves [] _ after
          (nothing_behind listing.halves listing.gave) answer.0.items.fault
          answer.0.items.failures listing.failures
          listing.lists (Holds-fails _ _ _ _ _ listing.holds failed.1) failed.2)
