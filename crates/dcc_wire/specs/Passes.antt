-- Half-bits of a body that is still unfinished after them.
use Rattle.std.specs.Prelude.{◌≡◌, ℕ, List, ◌++◌, None, map}
use Rattle.dcc_wire.specs.declared.half.Half.{Half}
use Rattle.dcc_wire.specs.Framing.{Rest, InBody}
use Rattle.dcc_wire.specs.Half.{class_of}
use Rattle.dcc_wire.specs.Outcomes.{outcome_of}

-- a framer in the unfinished body `body`, which is the state `old`, takes the half-bits `halves` and
-- goes to state `new`. The longer body is unfinished too.
pub record PassesBody (old : Rest) (halves : List ℕ) (new : Rest) : Type 0 where
  pub body : List Half
  pub before : old ≡ InBody body
  pub after : new ≡ InBody (body ++ map class_of halves)
  pub unfinished : outcome_of (body ++ map class_of halves) ≡ None
