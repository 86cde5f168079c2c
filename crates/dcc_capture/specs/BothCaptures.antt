-- The two captures of an input. The line between the two captures has the word `---` and no other
-- word.
use Rattle.std.specs.Prelude.{ℕ, ◌+◌, ◌-◌, ◌==◌, ◌&&◌, not, nat_le, ◌∷◌, ◌++◌, List, [], Bool, false, Option, None}
use Rattle.std.specs.Prelude.{Some, replicate, if◌then◌else◌}
use Rattle.dcc_io.specs.declared.fault.KeptFault.{KeptFault}
use Rattle.dcc_io.specs.declared.fault.KeptFault.TheVariants.{Number, TooMuch}
use Rattle.dcc_io.specs.declared.word.Run.{Run}
use Rattle.dcc_io.specs.InputState.{InputState, all_lines}
use Rattle.dcc_io.specs.Words.{PlacedWord, ended_words, is_mark, run_of}
use Rattle.dcc_io.specs.Took.{within_limit, fault_at_end}
use Rattle.dcc_io.specs.Items.{Items}
use Rattle.dcc_capture.specs.Capture.{halves_of_words}

-- the half-bits of two captures before the first error of their input, and this error. If the input
-- has no error, `fault` is `None`.
pub record Both : Type 0 where
  pub first : List ℕ
  pub second : List ℕ
  pub fault : Option KeptFault

-- two captures without half-bits, and the error `fault` of their input
abbrev pub fault_alone : KeptFault → Both
fault_alone fault = record { first = []; second = []; fault = Some fault }

-- two captures: `halves` followed by the first capture of `both`, and the second capture of `both`
abbrev pub in_front : List ℕ → Both → Both
in_front halves both = record { first = halves ++ both.first; second = both.second; fault = both.fault }

-- an empty first capture, and the second capture `items`
abbrev pub only_second : Items ℕ → Both
only_second items = record { first = []; second = items.said; fault = items.fault }

-- true if the first word of a list of words is on line `line`
abbrev pub has_more_words : ℕ → List PlacedWord → Bool
has_more_words line [] = false
has_more_words line (word ∷ words) = word.line == line

-- both captures of an input in which `words` follow a word `---` at the beginning of line `line`.
-- The first capture has no half-bit, and the second capture is `halves_of_words most words last`:
-- `most` is the limit of half-bits, and `last` is the error after the words. If the first of `words`
-- is on line `line`, the error is U2.
abbrev pub behind_mark : ℕ → ℕ → List PlacedWord → Option KeptFault → Both
behind_mark line most words last =
    if has_more_words line words then fault_alone (Number line) else only_second (halves_of_words most words last)

-- both captures of an input whose first capture begins with `run`. The limit allows `most`
-- half-bits. `rest (most - run.n)` gives both captures of the words after `run`. If `run` has more
-- than `most` half-bits, the error is U7.
abbrev pub counted_first : ℕ → Run → (ℕ → Both) → Both
counted_first most run rest =
    if nat_le run.n most then in_front (replicate run.n run.us) (rest (most - run.n)) else fault_alone TooMuch

-- both captures of an input whose first capture begins with a word on line `line`. If the word is a
-- run, the captures are `counted_first most run rest`. If the word is no run, the error is U2.
abbrev pub spelled_first : ℕ → ℕ → Option Run → (ℕ → Both) → Both
spelled_first most line None rest = fault_alone (Number line)
spelled_first most line (Some run) rest = counted_first most run rest

-- Both captures of a list of words, if the limit allows `most` half-bits. The word before the list
-- is on line `before`, or `before` is 0 if there is no such word. `last` is the error after the
-- list, or `None` if the input ends there. If the line `---` is missing, the error is P10 on line
-- `end`.
abbrev pub both_of : ℕ → ℕ → ℕ → List PlacedWord → Option KeptFault → Both
both_of before most end [] last = fault_alone (fault_at_end end last)
both_of before most end (word ∷ words) last =
    if is_mark word.bytes && not (word.line == before) then behind_mark word.line most words last
    else spelled_first most word.line (run_of word.bytes) (λ left. both_of word.line left end words last)

-- the type of a function that gives both captures of an input. The first argument is the number of
-- the last line plus one. The second argument is the bytes that are still to be read. The third
-- argument is the error after these bytes, or `None` if the input ends there.
abbrev pub Said : Type 0
Said = ℕ → List ℕ → Option KeptFault → Both

-- both captures of `bytes`, which are still to be read from `input`. The word before `bytes` is on
-- line `before`, or `before` is 0 if there is no such word. `last` is the error after `bytes`, or
-- `None` if the input ends there. If the line `---` is missing, the error is P10 on line `end`.
abbrev pub both_from : ℕ → InputState → Said
both_from before input end bytes last = both_of before input.halves end (ended_words input.place bytes) last

-- both captures that the function `said` gives for `text`. If `text` has more bytes than the limit
-- of `input` allows, `said` gets only the allowed bytes, and the error U7 after them.
abbrev pub in_limit : Said → InputState → List ℕ → Both
in_limit said input text = within_limit (said (all_lines input text + 1)) input text
