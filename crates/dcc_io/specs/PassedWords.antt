-- How an input reads words.
use Rattle.std.specs.Prelude.{◌≡◌, ℕ, ◌<◌, ◌≤◌, ◌∷◌, List, [], Option, None, Some, Result, Ok, Err, IfSome}
use Rattle.dcc_io.specs.declared.fault.KeptFault.{KeptFault}
use Rattle.dcc_io.specs.declared.fault.KeptFault.TheVariants.{Number, Line, Read, TooMuch}
use Rattle.dcc_io.specs.declared.word.RunWord.{RunWord}
use Rattle.dcc_io.specs.ReaderState.{IsAtEnd}
use Rattle.dcc_io.specs.InputState.{InputState}
use Rattle.dcc_io.specs.Words.{PlacedWord, ended_words, Passes}
use Rattle.dcc_io.specs.SpelledWords.{Spells}
use Rattle.dcc_io.specs.Took.{Took, FailsBehind, OverflowsBehind, LinesAt}

-- between the states `old` and `new`, the input read `words` without an error
pub record Passed (old : InputState) (words : List PlacedWord) (new : InputState) : Type 0 where
  pub took : Took (λ used. Passes old.place used words new.place) old new
  pub open took use *
  pub halves : new.halves ≡ old.halves

-- if the next bytes of `input` are `bytes`, they contain no complete word
abbrev pub IsBeforeWord : InputState → List ℕ → Type 0
IsBeforeWord input bytes = ended_words input.place bytes ≡ []

-- the next word, which is on line `line`, was read, but no byte of a later line. `so_far` is the
-- stored form of the word.
pub record EndsWord (old : InputState) (line : ℕ) (so_far : RunWord) (new : InputState) : Type 0 where
  pub word : List ℕ
  pub spelled : Spells so_far word
  pub passed : Passed old (record { line = line; bytes = word } ∷ []) new
  pub fewer : new.bytes < old.bytes
  pub behind : line ≤ new.place.line
  pub lines : IfSome old.text (λ text. new.lines ≡ line)

-- the result is the next word with the number of its line, or `None` at the end of the text. If a
-- read failed before the word was complete, the result is the error U4. If the limit of bytes ended
-- before the word was complete, the result is the error U7.
abbrev pub AnswersWord : InputState → Result (Option (ℕ × RunWord)) KeptFault → InputState → Type 0
AnswersWord old (Ok (Some word)) new = EndsWord old word.0 word.1 new
AnswersWord old (Ok None) new = Passed old [] new × IsAtEnd new.text
AnswersWord old (Err Read) new = FailsBehind (IsBeforeWord old) old new × (new.fault ≡ Some Read) × LinesAt old Read new
AnswersWord old (Err TooMuch) new =
    OverflowsBehind (IsBeforeWord old) old new × (new.fault ≡ Some TooMuch) × LinesAt old TooMuch new
AnswersWord old (Err (Number line)) new = ⊥
AnswersWord old (Err (Line line fault)) new = ⊥
