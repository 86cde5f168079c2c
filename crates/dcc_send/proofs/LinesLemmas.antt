-- What is written of lines, where they end and where they have a fault.
use Rattle.std.proofs.Common.{◌≡◌, List, [], ◌++◌, None, Some, Ok, Err, ◌∙◌}
use Rattle.dcc_io.specs.declared.fault.KeptFault.{KeptFault}
use Rattle.dcc_io.specs.declared.fault.KeptFault.TheVariants.{Number, Line, Read, TooMuch}
use Rattle.dcc_io.specs.Calls.{ReadsTo, IsOfLines, WritesOfLines}
use Rattle.dcc_io.specs.Faults.{as_tool_fault}
use Rattle.dcc_io.specs.InputState.{InputState}
use Rattle.dcc_io.specs.Took.{LinesAt}
use Rattle.dcc_io.specs.Items.{Gave, StopsAt}
use Rattle.dcc_io.specs.PacketLines.{Saying, lines_by}
use Rattle.dcc_io.specs.PacketRead.{AnswersSaid}
use Rattle.dcc_io.specs.WriterState.{WriterState}
use Rattle.dcc_io.proofs.CallLemmas.{gives_up}
use Rattle.dcc_io.proofs.TookLemmas.{LinesAt-behind}
use Rattle.dcc_io.proofs.ItemsLemmas.{Gave-append, up_to_fault, reads_up_to, uses_all_lines}

module _ {A B C : Type 0} (saying : Saying A B) (as_said : C → B) (start now new : InputState) (items : List A)
    (whole front : List A → Type 0) (before then : WriterState) (gave : Gave (lines_by saying) start items now)
    (holds : whole items) (same : then.failures ≡ before.failures) where
  -- the lines have ended
  pub writes_all : AnswersSaid saying as_said now (Ok None) new
      → WritesOfLines (lines_by saying) whole front start before (Ok tt) new then
  writes_all answer =
      let last = answer.0 in (
        record {
          items = (
            up_to_fault (lines_by saying) start now items None whole gave answer.2 holds,
            last.failures ∙ gave.failures,
          );
          at_end = answer.1;
          lines = uses_all_lines (lines_by saying) start new (items ++ [])
              (Gave-append (lines_by saying) start now new items [] gave last) answer.1;
          fault = last.fault;
        },
        same,
      )

  stops_at : (fault : KeptFault) → AnswersSaid saying as_said now (Err fault) new
      → StopsAt (lines_by saying) now fault new × (new.fault ≡ Some fault) × IsOfLines fault
      × LinesAt now fault new
  stops_at (Number line) answer = absurd answer
  stops_at (Line line fault) answer = (answer.0, answer.1, tt, answer.2)
  stops_at Read answer = (answer.0, answer.1, tt, answer.2)
  stops_at TooMuch answer = (answer.0, answer.1, tt, answer.2)

  -- the lines have a fault
  pub writes_up_to : (fault : KeptFault) → AnswersSaid saying as_said now (Err fault) new
      → WritesOfLines (lines_by saying) whole front start before (Err (as_tool_fault fault)) new then
  writes_up_to fault answer =
      let stops = stops_at fault answer in
      gives_up (λ kept. (IsOfLines kept × ReadsTo (lines_by saying) start kept new whole × LinesAt start kept new)
      × (then.failures ≡ before.failures)) _ _ fault (
        (
          stops.2,
          record {
            kept = stops.1;
            items = reads_up_to (lines_by saying) start now new fault items whole gave stops.0 holds;
          },
          LinesAt-behind gave new fault stops.3,
        ),
        same,
      )
