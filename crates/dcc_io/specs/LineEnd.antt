-- How an input skips the rest of a line.
use Rattle.std.specs.Prelude.{◌≡◌, ◌⊎◌, ℕ, ◌<◌, ◌∷◌, List, [], Bool, true, false, Result, Ok, Err, IfSome}
use Rattle.dcc_io.specs.declared.fault.KeptFault.{KeptFault}
use Rattle.dcc_io.specs.InputState.{InputState}
use Rattle.dcc_io.specs.PassedWords.{Passed, AnswersWord}

-- `input` is on a line after the line with number `line`, or at the end of its text
abbrev pub IsBehindLine : ℕ → InputState → Type 0
IsBehindLine line input = IfSome input.text (λ rest. (rest ≡ []) ⊎ (line < input.place.line))

-- If the result is true, the line of `old` has no further word, and `new` is on a later line or at
-- the end. If the result is false, the input read a further word on this line, but no byte of a
-- later line.
abbrev pub SkipsToLineEnd : InputState → Result Bool KeptFault → InputState → Type 0
SkipsToLineEnd old (Ok true) new = Passed old [] new × IsBehindLine old.place.line new
SkipsToLineEnd old (Ok false) new = (word : List ℕ) × Passed old
    (record { line = old.place.line; bytes = word } ∷ []) new
    × IfSome old.text (λ text. new.lines ≡ old.place.line)
SkipsToLineEnd old (Err fault) new = AnswersWord old (Err fault) new
