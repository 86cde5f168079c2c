-- The lines of a whole text.
use Rattle.std.proofs.Common.{◌≡◌, ℕ, ◌+◌, List, [], ◌∷◌, ◌++◌, Bool, true, false, cond, eqb, refl, ◌∙◌, arith}
use Rattle.dcc_io.specs.TextPlace.{line_behind, lines_through}
use Rattle.dcc_io.specs.LineCount.{line_count, LinesAreCounted}

-- from this line on, the last line is so many further on
last_line : (lines line byte : ℕ) (text : List ℕ)
    → lines_through lines line ((byte ∷ text) ++ 10 ∷ []) + 1 ≡ line + line_count (byte ∷ text)
last_line lines line byte [] = refl
last_line lines line byte (next ∷ text) =
    last_line line (line_behind line byte) next text ∙ by_feed (eqb byte 10) (line_count (next ∷ text))
  where
    by_feed : (feed : Bool) (more : ℕ) → cond feed (line + 1) line + more ≡ line + cond feed (1 + more) more
    by_feed true more = omega arith
    by_feed false more = refl

pub lines_counted : LinesAreCounted
lines_counted [] failures halves bytes = refl
lines_counted (byte ∷ text) failures halves bytes = let last = last_line 0 1 byte text in omega arith
