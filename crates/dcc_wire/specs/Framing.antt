-- The outcomes in a list of half-bits (NMRA S-9.2; RCN-211). The definition computes the places at
-- which bodies begin in the whole list.
use Rattle.std.specs.Prelude.{◌≡◌, ℕ, suc, zero, ◌+◌, ◌-◌, min, nat_le, Bool, true, false, ◌&&◌, List, [], ◌∷◌}
use Rattle.std.specs.Prelude.{map, reverse, length, take, drop, slice_index_or, if◌then◌else◌}
use Rattle.std.specs.Option.{option_map, option_map_or}
use Rattle.std.specs.List.{filter_map}
use Rattle.dcc_wire.specs.declared.half.Half.{Half}
use Rattle.dcc_wire.specs.declared.half.Half.TheVariants.{One, Zero, Bad}
use Rattle.dcc_wire.specs.declared.seen.Seen.{Seen}
use Rattle.dcc_wire.specs.declared.seen.Seen.TheVariants.{Nothing, Packet, Refused}
use Rattle.dcc_wire.specs.Half.{class_of}
use Rattle.dcc_wire.specs.Outcomes.{outcome_of, ones_left}

-- the number of `One` at the beginning of `halves`
unfoldable pub ones_before : List Half → ℕ
ones_before (One ∷ halves) = suc (ones_before halves)
ones_before _ = 0

unfoldable pub ones_at_end : List Half → ℕ
ones_at_end halves = ones_before (reverse halves)

abbrev pub is_zero : Half → Bool
is_zero One = false
is_zero Zero = true
is_zero Bad = false

-- the place in `halves` after the last half-bit that a body uses. The second argument is the list
-- of the places at which the bodies begin, in descending order. If this list is empty, the result
-- is 0. The last body uses the half-bits of its outcome, except the half-bits of an end bit. If it
-- is unfinished, it uses all half-bits.
unfoldable pub used_up : List Half → List ℕ → ℕ
used_up halves [] = 0
used_up halves (start ∷ earlier) =
    let body = drop start halves in
    start + option_map_or (λ p. p.0 - ones_left p.1) (outcome_of body) (length body)

-- true if a body begins at `place` in `halves`: the half-bit at `place` is a zero, and at least 20
-- half-bits of ones are directly before `place`. No body that begins at a place in `earlier` uses
-- these half-bits of ones.
unfoldable pub is_start : List Half → List ℕ → ℕ → Bool
is_start halves earlier place =
    is_zero (slice_index_or halves place Bad)
    && nat_le 20 (ones_at_end (drop (used_up halves earlier) (take place halves)))

-- the places in `halves` at which a body begins, in descending order. Only places below a given
-- place are in the list.
unfoldable pub starts_below : List Half → ℕ → List ℕ
starts_below halves zero = []
starts_below halves (suc place) =
    let earlier = starts_below halves place in
    if is_start halves earlier place then place ∷ earlier else earlier

-- the places in `halves` at which a body begins, in descending order
abbrev pub starts : List Half → List ℕ
starts halves = starts_below halves (length halves)

-- each outcome in the list of half-bits `durations`, with the place of its last half-bit. An
-- unfinished body has no outcome.
unfoldable pub seen : List ℕ → List (ℕ × Seen)
seen durations =
    let halves = map class_of durations in
    filter_map
    (λ start. option_map (λ p. (start + p.0 - 1, p.1)) (outcome_of (drop start halves)))
    (reverse (starts halves))

-- the state of a framer. Between two bodies it is the number of half-bits of ones, at most 20. In
-- an unfinished body it is the list of the half-bits of this body.
pub data Rest : Type 0 where
  Hunting : ℕ → Rest
  InBody : List Half → Rest

-- true if a framer in the state `rest` is between bodies
abbrev pub is_hunting : Rest → Bool
is_hunting (Hunting ones) = true
is_hunting (InBody halves) = false

-- the state of a framer between two bodies. The state counts the half-bits of ones at the end of
-- `halves`, up to 20. Half-bits that the bodies at `places` use do not count.
unfoldable pub hunting : List Half → List ℕ → Rest
hunting halves places = Hunting (min 20 (ones_at_end (drop (used_up halves places) halves)))

unfoldable pub rest_at : List Half → List ℕ → Rest
rest_at halves [] = hunting halves []
rest_at halves (start ∷ earlier) =
    option_map_or
    (λ _. hunting halves (start ∷ earlier))
    (outcome_of (drop start halves))
    (InBody (drop start halves))

unfoldable pub rest : List ℕ → Rest
rest durations = let halves = map class_of durations in rest_at halves (starts halves)

-- a list with the outcome of the half-bit at `place`. If this half-bit ends no outcome, the list is
-- empty.
unfoldable pub report_at : ℕ → Seen → List (ℕ × Seen)
report_at place Nothing = []
report_at place (Packet bytes) = (place, Packet bytes) ∷ []
report_at place (Refused fault) = (place, Refused fault) ∷ []

-- `framer` represents the half-bits `durations`: it is the state of a framer after these half-bits
unfoldable pub StandsFor : Rest → List ℕ → Type 0
StandsFor framer durations = framer ≡ rest durations
