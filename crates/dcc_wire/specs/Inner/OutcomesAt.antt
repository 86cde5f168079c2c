-- The outcomes of the bodies at given places.
use Rattle.std.specs.Prelude.{ℕ, ◌+◌, ◌-◌, List, [], ◌∷◌, ◌++◌, drop}
use Rattle.std.specs.Option.{option_map_or}
use Rattle.dcc_wire.specs.declared.half.Half.{Half}
use Rattle.dcc_wire.specs.declared.seen.Seen.{Seen}
use Rattle.dcc_wire.specs.Outcomes.{outcome_of}

-- a list with the outcome of the body that begins at the place `start` in `halves`, and the place
-- of the last half-bit of this outcome. If the body is unfinished, the list is empty.
unfoldable pub outcome_at : List Half → ℕ → List (ℕ × Seen)
outcome_at halves start =
    option_map_or (λ p. (start + p.0 - 1, p.1) ∷ []) (outcome_of (drop start halves)) []

-- the outcomes of those bodies in `halves` that begin at the places of a list. The places are in
-- descending order, and the outcomes are in ascending order.
unfoldable pub outcomes_at : List Half → List ℕ → List (ℕ × Seen)
outcomes_at halves [] = []
outcomes_at halves (start ∷ earlier) = outcomes_at halves earlier ++ outcome_at halves start
