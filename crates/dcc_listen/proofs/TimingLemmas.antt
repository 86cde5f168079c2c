-- How a capture is measured.
use Rattle.std.proofs.Common.{◌≡◌, ℕ, ◌+◌, ◌^◌, ◌<◌, ◌≤◌, List, [], ◌++◌, length, None, Some, Option}
use Rattle.std.proofs.Common.{IfSome, Ok, Err}
use Rattle.std.proofs.Common.{subst, ◌∙◌, arith}
use Rattle.std.specs.Io.KnownBytes.{Appends}
use Rattle.dcc_io.specs.declared.fault.KeptFault.{KeptFault}
use Rattle.dcc_io.specs.declared.fault.ToolFault.TheVariants as told
use Rattle.dcc_io.specs.declared.stream.Failed.{Failed}
use Rattle.dcc_io.specs.Calls.{ReadsAll}
use Rattle.dcc_io.specs.InputState.{InputState}
use Rattle.dcc_io.specs.Items.{EndsWith}
use Rattle.dcc_io.specs.WriterState.{WriterState}
use Rattle.dcc_io.specs.WrittenBytes.{AppendsFront, Writes}
use Rattle.dcc_io.proofs.ItemsLemmas.{Gave-append, up_to_fault, reads_up_to, uses_all_lines}
use Rattle.dcc_capture.specs.Capture.{captures, capture_in, GaveHalves, AnswersRun}
use Rattle.dcc_capture.proofs.CaptureLemmas.{CaptureLinesAt-behind}
use Rattle.dcc_lost.specs.declared.figures.TrackFigures.{TrackFigures}
use Rattle.dcc_lost.specs.MeasuresTrack.{MeasuresTrack}
use Rattle.dcc_listen.specs.Timed.{MeasuresCapture, StopsTiming, Times}
use Rattle.dcc_listen.specs.TimingText.{timing_text}
use Rattle.dcc_capture.proofs.LinesLemmas.{GaveHalves-none, GaveHalves-append, stops_at_run_fault}

-- so far these halves were read, and this holds of them
pub record Measuring (start now : InputState) (fact : List ℕ → Type 0) : Type 0 where
  pub halves : List ℕ
  pub gave : GaveHalves start halves now
  pub measures : fact halves

pub measuring_none : (start : InputState) (fact : List ℕ → Type 0) → start.fault ≡ None → fact []
    → Measuring start start fact
measuring_none start fact fault measures =
    record { halves = []; gave = GaveHalves-none start fault; measures = measures }

-- there is room for more half-bits
pub measuring_room : (start now new : InputState) (fact : List ℕ → Type 0) (counted : ℕ) (given : List ℕ) (most : ℕ)
    → most ≡ start.halves → most < 2 ^ 32 → ((halves : List ℕ) → fact halves → counted ≤ length halves)
    → Measuring start now fact → GaveHalves now given new
    → counted + length given < 2 ^ 32
measuring_room start now new fact counted given most is small few so_far gave =
    let taken = so_far.gave.left in
    let more = gave.left in
    omega (arith, is, small, taken, more, few so_far.halves so_far.measures)

pub measuring_more : (start now new : InputState) (fact next : List ℕ → Type 0) (given : List ℕ)
    → GaveHalves now given new
    → ((halves : List ℕ) → fact halves → next (halves ++ given))
    → Measuring start now fact → Measuring start new next
measuring_more start now new fact next given gave takes so_far = record {
  halves = so_far.halves ++ given;
  gave = GaveHalves-append start now new so_far.halves given so_far.gave gave;
  measures = takes so_far.halves so_far.measures;
}

pub measured_all : (start now new : InputState) (fact : List ℕ → Type 0) → Measuring start now fact
    → AnswersRun now (Ok None) new
    → ReadsAll captures start new (λ halves. fact halves × (new.halves + length halves ≡ start.halves))
measured_all start now new fact so_far answer =
    let all = answer.0 in
    record {
      items = (
        up_to_fault captures start now so_far.halves None
            (λ halves. fact halves × (new.halves + length halves ≡ start.halves))
            so_far.gave.items answer.2 (so_far.measures, omega (arith, so_far.gave.left, all.left)),
        all.items.failures ∙ so_far.gave.items.failures,
      );
      at_end = answer.1;
      lines = uses_all_lines captures start new (so_far.halves ++ [])
          (Gave-append captures start now new so_far.halves [] so_far.gave.items all.items) answer.1;
      fault = all.items.fault;
    }

pub measuring_stops : (start now new : InputState) (fact : List ℕ → Type 0) (fault : KeptFault)
    → Measuring start now fact → AnswersRun now (Err fault) new → StopsTiming start fault new
measuring_stops start now new fact fault so_far answer =
    let stops = stops_at_run_fault now new fault answer in
    record {
      of_capture = stops.2;
      reads = record {
        kept = stops.1;
        items = reads_up_to captures start now new fault so_far.halves (λ halves. Unit {0}) so_far.gave.items stops.0
            tt;
      };
      lines = CaptureLinesAt-behind start now new so_far.halves fault so_far.gave.items stops.3;
    }

-- what holds of a capture that was read holds in other words
reads_other : (old new : InputState) (fact other : List ℕ → Type 0) → ((halves : List ℕ) → fact halves → other halves)
    → ReadsAll captures old new fact → ReadsAll captures old new other
reads_other old new fact other turn all =
    record { items = (go old.text all.items.0, all.items.1); at_end = all.at_end; lines = all.lines; fault = all.fault }
  where
    go : (text : Option (List ℕ)) → IfSome text (λ text. EndsWith None fact (capture_in old text))
        → IfSome text (λ text. EndsWith None other (capture_in old text))
    go None says = tt
    go (Some text) says = (says.0, turn (capture_in old text).said says.1)

-- the text of the figures was written
pub timed : (old new : InputState) (before after : WriterState) (figures : TrackFigures)
    (text bytes : List ℕ) → MeasuresCapture old (Ok figures) new
    → ((halves : List ℕ) → MeasuresTrack figures halves → text ≡ timing_text halves)
    → bytes ≡ text → Writes before bytes (Ok tt) after → Times old before (Ok tt) new after
timed old new before after figures text bytes measured spelled same wrote = (
  reads_other old new (λ halves. MeasuresTrack figures halves × (new.halves + length halves ≡ old.halves))
      (λ halves. Appends before.contents after.contents (timing_text halves)
      × (new.halves + length halves ≡ old.halves))
      (λ halves is. (
        subst (λ (l : List ℕ). Appends before.contents after.contents l) (same ∙ spelled halves is.0)
            wrote.0,
        is.1,
      )) measured,
  wrote.1,
)

-- a front of it was
pub unwritten : (old new : InputState) (before after : WriterState) (figures : TrackFigures)
    (text bytes : List ℕ) (failed : Failed) → MeasuresCapture old (Ok figures) new
    → ((halves : List ℕ) → MeasuresTrack figures halves → text ≡ timing_text halves)
    → bytes ≡ text → Writes before bytes (Err failed) after → Times old before (Err told.Write) new after
unwritten old new before after figures text bytes failed measured spelled same wrote = (
  reads_other old new (λ halves. MeasuresTrack figures halves × (new.halves + length halves ≡ old.halves))
      (λ halves. AppendsFront before after (timing_text halves))
      (λ halves is. subst (λ (l : List ℕ). AppendsFront before after l) (same ∙ spelled halves is.0)
      wrote.0) measured,
  wrote.1,
)
