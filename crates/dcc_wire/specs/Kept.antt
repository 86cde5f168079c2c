-- The state of a framer as plain numbers.
use Rattle.std.specs.Prelude.{◌≡◌, ℕ, Bool, true, List, ◌++◌, Some, None, if◌then◌else◌}
use Rattle.dcc_wire.specs.declared.half.Half.{Half}
use Rattle.dcc_wire.specs.Bodies.{halves_of, first_half}
use Rattle.dcc_wire.specs.Outcomes.{bytes_in}
use Rattle.dcc_wire.specs.Packed.{packed_bits, IsPacked}
use Rattle.dcc_wire.specs.Framing.{Rest, Hunting, InBody, StandsFor}

pub record Kept : Type 0 where
  -- true in a body, false between two bodies
  pub in_body : Bool
  -- between two bodies: the number of half-bits of ones
  pub ones : ℕ
  -- in a body: `has_first` is true if the first half-bit of an unfinished bit was received. In this
  -- case, `first` is true for half of a one and false for half of a zero.
  pub has_first : Bool
  pub first : Bool
  -- in a body: `bytes` are the complete bytes, and `xor` is their exclusive or. `count` bits follow
  -- the complete bytes, and `shift` is the number that these bits form.
  pub xor : ℕ
  pub shift : ℕ
  pub count : ℕ
  pub bytes : List ℕ

-- the half-bits of the unfinished body in state `k`
abbrev pub kept_halves : Kept → List Half
kept_halves k =
    halves_of (packed_bits k.bytes k.count k.shift) ++ first_half (if k.has_first then Some k.first else None)

-- the state of a framer as a value of `Rest`. `k` stores this state as plain numbers.
abbrev pub kept_rest : Kept → Rest
kept_rest k = if k.in_body then InBody (kept_halves k) else Hunting k.ones

-- `k` is the state of a framer after some list of half-bits. In a body, the numbers in `k` are the
-- numbers of an unfinished body.
pub record IsKept (k : Kept) : Type 0 where
  pub packed : k.in_body ≡ true → IsPacked k.bytes k.xor k.count k.shift
  pub unfinished : k.in_body ≡ true → bytes_in 6 (packed_bits k.bytes k.count k.shift) ≡ None
  pub history : (durations : List ℕ) × StandsFor (kept_rest k) durations
