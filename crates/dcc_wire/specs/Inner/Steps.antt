-- The effect of one half-bit on the state of a framer.
use Rattle.std.specs.Prelude.{ℕ, ◌+◌, min, nat_le, List, [], ◌∷◌, ◌++◌, Option, Some, None, if◌then◌else◌}
use Rattle.dcc_wire.specs.declared.half.Half.{Half}
use Rattle.dcc_wire.specs.declared.half.Half.TheVariants.{One, Zero, Bad}
use Rattle.dcc_wire.specs.declared.seen.Seen.{Seen}
use Rattle.dcc_wire.specs.declared.seen.Seen.TheVariants.{Nothing}
use Rattle.dcc_wire.specs.Outcomes.{outcome_of, ones_left}
use Rattle.dcc_wire.specs.Framing.{Rest, Hunting, InBody}

-- the answer of a framer in a body: the outcome in `p`, or `Nothing` if the body is unfinished
unfoldable pub answer_of : Option (ℕ × Seen) → Seen
answer_of None = Nothing
answer_of (Some p) = p.1

-- the state of a framer that took the half-bits `halves` of a body. If the body has an outcome `p`,
-- the framer is between two bodies. Otherwise it is still in this body.
unfoldable pub left_of : List Half → Option (ℕ × Seen) → Rest
left_of halves None = InBody halves
left_of halves (Some p) = Hunting (ones_left p.1)

-- the state of a framer after one more half-bit of class `half`
unfoldable pub rest_after : Rest → Half → Rest
rest_after (Hunting ones) One = Hunting (min 20 (ones + 1))
rest_after (Hunting ones) Zero = if nat_le 20 ones then InBody (Zero ∷ []) else Hunting 0
rest_after (Hunting ones) Bad = Hunting 0
rest_after (InBody halves) half = left_of (halves ++ half ∷ []) (outcome_of (halves ++ half ∷ []))

-- the answer of a framer to one more half-bit of class `half`
unfoldable pub answer_to : Rest → Half → Seen
answer_to (Hunting ones) half = Nothing
answer_to (InBody halves) half = answer_of (outcome_of (halves ++ half ∷ []))
