-- The decoder on the programming track.
use Rattle.std.specs.Prelude.{ℕ, List, [], ◌∷◌, Option, None, Some}
use Rattle.dcc_saved.specs.declared.saved.Saved.{Saved}
use Rattle.dcc_saved.specs.declared.saved.Saved.TheVariants.{Loco, Board}

-- the CVs of the decoder on the programming track. This decoder is the first locomotive decoder of
-- a list. If the list has no locomotive decoder, the result is `None`.
abbrev pub first_cvs : List Saved → Option (List ℕ)
first_cvs [] = None
first_cvs (Loco state ∷ rest) = Some state.cvs
first_cvs (Board state ∷ rest) = first_cvs rest
