-- The half-bits at the end of a list that no outcome uses.
use Rattle.std.specs.Prelude.{◌≡◌, ◌<◌, ℕ, ◌+◌, ◌-◌, min, List, [], ◌∷◌, ◌++◌, length, map, fold, Option, None, Some}
use Rattle.std.specs.Prelude.{IfSome}
use Rattle.dcc_wire.specs.declared.seen.Seen.{Seen}
use Rattle.dcc_wire.specs.declared.seen.Seen.TheVariants.{Nothing, Packet, Refused}
use Rattle.dcc_wire.specs.Framing.{seen, Rest, StandsFor, starts, used_up}
use Rattle.dcc_wire.specs.Half.{class_of}
use Rattle.dcc_wire.specs.Outcomes.{ones_left}

-- the last outcome of the list `outcomes`, or `None` if the list is empty
unfoldable pub last_outcome : List (ℕ × Seen) → Option (ℕ × Seen)
last_outcome outcomes = fold (λ last outcome. Some outcome) None outcomes

-- the number of half-bits at the end of a list that no outcome uses. The list has `count`
-- half-bits, and its last outcome is given. The two half-bits of an end bit count as unused.
unfoldable pub unused_after : ℕ → Option (ℕ × Seen) → ℕ
unused_after count None = count
unused_after count (Some (place, outcome)) = count - (place + 1) + ones_left outcome

-- the number of half-bits after the last outcome in a list of `count` half-bits, at most 255. If
-- the last outcome is no refusal, the result is `None`.
unfoldable pub since_refusal : ℕ → Option (ℕ × Seen) → Option ℕ
since_refusal count None = None
since_refusal count (Some (place, Nothing)) = None
since_refusal count (Some (place, Packet bytes)) = None
since_refusal count (Some (place, Refused fault)) = Some (min 255 (count - (place + 1)))

-- The number of half-bits at the end of `durations` that no outcome uses, at most 20. An unfinished
-- body uses all its half-bits.
unfoldable pub unused_at_end : List ℕ → ℕ
unused_at_end durations =
    let halves = map class_of durations in min 20 (length durations - used_up halves (starts halves))

-- for each half-bit of `durations`, the number of half-bits directly before this half-bit that no
-- outcome uses, at most 20. The half-bits `before` come before `durations`.
unfoldable pub unused_from : List ℕ → List ℕ → List ℕ
unused_from before [] = []
unused_from before (us ∷ durations) = unused_at_end before ∷ unused_from (before ++ us ∷ []) durations

-- `framer` is the state of a framer after the list `durations`. `unused` is the number of half-bits
-- at the end of the list that no outcome uses, at most 20. If the last outcome is a refusal,
-- `since` is the number of half-bits after the refusal, at most 255.
pub record Hears (framer : Rest) (unused : ℕ) (since : Option ℕ) (durations : List ℕ) : Type 0 where
  pub stands : StandsFor framer durations
  pub below : IfSome (last_outcome (seen durations)) (λ outcome. outcome.0 < length durations)
  pub left_unused : unused ≡ min 20 (unused_after (length durations) (last_outcome (seen durations)))
  pub refused : since ≡ since_refusal (length durations) (last_outcome (seen durations))
