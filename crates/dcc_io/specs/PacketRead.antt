-- How an input reads lines and parses them.
use Rattle.std.specs.Prelude.{◌≡◌, ◌<◌, [], Option, None, Some, Result, Ok, Err, IfSome}
use Rattle.dcc_packet.specs.declared.fault.PacketFault.{PacketFault}
use Rattle.dcc_packet.specs.Words.{words}
use Rattle.dcc_io.specs.declared.text_line.TextLine.{TextLine}
use Rattle.dcc_io.specs.declared.fault.KeptFault.{KeptFault}
use Rattle.dcc_io.specs.declared.fault.KeptFault.TheVariants as kept
use Rattle.dcc_io.specs.ReaderState.{IsAtEnd}
use Rattle.dcc_io.specs.InputState.{InputState}
use Rattle.dcc_io.specs.Took.{LinesAt}
use Rattle.dcc_io.specs.Items.{Gave, StopsAt, only_fault}
use Rattle.dcc_io.specs.PacketLines.{Saying, lines_by, items_in}

-- the value that `as_said` returns for a parsed line. If the line has an error, the result is this
-- error.
abbrev pub map_parsed : {B C : Type 0} → (C → B) → Result C PacketFault → Result B PacketFault
map_parsed as_said (Ok says) = Ok (as_said says)
map_parsed as_said (Err fault) = Err fault

-- the result is the value of the next line that is neither blank nor a comment. After the last such
-- line it is `None`, and at the first error it is this error.
abbrev pub AnswersSaid : {A B C : Type 0} → Saying A B → (C → B) → InputState → Result (Option C) KeptFault → InputState
    → Type 0
AnswersSaid saying as_said old (Ok (Some says)) new =
    Gave (lines_by saying) old (saying.items (as_said says)) new × (new.bytes < old.bytes)
AnswersSaid saying as_said old (Ok None) new =
    Gave (lines_by saying) old [] new × IsAtEnd new.text
    × IfSome old.text (λ text. items_in saying old text ≡ only_fault None)
AnswersSaid saying as_said old (Err (kept.Number line)) new = ⊥
AnswersSaid saying as_said old (Err fault) new =
    StopsAt (lines_by saying) old fault new × (new.fault ≡ Some fault) × LinesAt old fault new

-- the result is the value that the words of `line` mean. If these words have an error, the result
-- is this error, and the input stores it.
abbrev pub ReadsSaid : {A B C : Type 0} → Saying A B → (C → B) → InputState → TextLine → Result (Option C) KeptFault
    → InputState → Type 0
ReadsSaid saying as_said old line (Ok (Some says)) new =
    (saying.said (words line.text.bytes) ≡ Ok (as_said says)) × (new ≡ old)
ReadsSaid saying as_said old line (Ok None) new = ⊥
ReadsSaid saying as_said old line (Err answer) new =
    (fault : PacketFault) × (answer ≡ kept.Line line.number fault) × (saying.said (words line.text.bytes) ≡ Err fault)
    × (new ≡ record old { fault = Some (kept.Line line.number fault) })
