-- Steps within the first of two captures.
use Rattle.std.specs.Prelude.{◌≡◌, ◌≢◌, true, false, ◌⊎◌, ℕ, ◌-◌, ◌<◌, ◌≤◌, List, Option, None, Some, Result, Ok, Err}
use Rattle.dcc_io.specs.declared.fault.KeptFault.{KeptFault}
use Rattle.dcc_io.specs.declared.fault.KeptFault.TheVariants.{Number, TooMuch}
use Rattle.dcc_io.specs.declared.word.Run.{Run}
use Rattle.dcc_io.specs.InputState.{InputState}
use Rattle.dcc_io.specs.Words.{run_of}
use Rattle.dcc_io.specs.LineEnd.{SkipsToLineEnd}

-- the word `bytes` on line `line` is a run, and its half-bits were subtracted from the limit of
-- half-bits. If the word is no run, the result is the error U2. If the run has more half-bits than
-- the limit allows, the result is the error U7.
abbrev pub CountsWord : InputState → ℕ → List ℕ → Result (Option (ℕ × Run)) KeptFault → InputState → Type 0
CountsWord old line bytes (Ok (Some taken)) new =
    (taken.0 ≡ line) × (run_of bytes ≡ Some taken.1) × (taken.1.n ≤ old.halves)
    × (new ≡ record old { halves = old.halves - taken.1.n })
CountsWord old line bytes (Ok None) new = ⊥
CountsWord old line bytes (Err fault) new = (new ≡ record old { fault = Some fault })
    × (((run_of bytes ≡ None) × (fault ≡ Number line))
    ⊎ ((run : Run) × (run_of bytes ≡ Some run) × (fault ≡ TooMuch) × (old.halves < run.n)))

-- the input read the rest of line `line` after its word `---`. If a further word is on this line,
-- the result is the error U2.
abbrev pub EndsMark : InputState → ℕ → Result (Option (ℕ × Run)) KeptFault → InputState → Type 0
EndsMark old line (Ok None) new =
    ((new ≡ old) × (old.place.line ≢ line)) ⊎ ((old.place.line ≡ line) × SkipsToLineEnd old (Ok true) new)
EndsMark old line (Ok (Some taken)) new = ⊥
EndsMark old line (Err fault) new = (old.place.line ≡ line)
    × (((mid : InputState) × SkipsToLineEnd old (Ok false) mid × (fault ≡ Number line)
    × (new ≡ record mid { fault = Some (Number line) })) ⊎ SkipsToLineEnd old (Err fault) new)
