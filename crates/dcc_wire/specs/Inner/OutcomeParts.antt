-- Parts of the outcome of a body.
use Rattle.std.specs.Prelude.{ℕ, ◌+◌, ◌*◌, Bool, List, ◌∷◌, length, if◌then◌else◌}
use Rattle.dcc_wire.specs.declared.half.Half.{Half}
use Rattle.dcc_wire.specs.declared.half.Half.TheVariants.{One, Zero}
use Rattle.dcc_wire.specs.declared.seen.Fault.TheVariants.{TooLong}
use Rattle.dcc_wire.specs.declared.seen.Seen.{Seen}
use Rattle.dcc_wire.specs.declared.seen.Seen.TheVariants.{Refused}
use Rattle.dcc_wire.specs.Outcomes.{body_outcome}

-- the half-bits of a list after the half-bits of the bits that `bits_in` returns
unfoldable pub behind_bits : List Half → List Half
behind_bits (One ∷ One ∷ halves) = behind_bits halves
behind_bits (Zero ∷ Zero ∷ halves) = behind_bits halves
behind_bits halves = halves

-- the number of half-bits of a body, and its outcome. The body consists of the bytes `p.0` and then
-- the bit `p.1`.
unfoldable pub by_bits : List ℕ × Bool → ℕ × Seen
by_bits p = (18 * length p.0 + 2, if p.1 then body_outcome p.0 else Refused TooLong)
