-- An optional mutable reference to a decoder.
use Rattle.std.specs.Prelude.{◌⊎◌, Option, Some, None}
use Rattle.std.proofs.Common.{inl, inr}
use denote.MutBor.{MutBor}
use Rattle.dcc_service.specs.Machine.{ServiceState}

-- the state of a decoder after a function has returned, or `None` if the caller passed no reference
-- to a decoder
abbrev pub left_in : (Unit {0}) ⊎ ((MutBor ServiceState × Unit {0}) ⊎ ⊥) → Option ServiceState
left_in (inl none) = None
left_in (inr (inl some)) = Some some.0.now
left_in (inr (inr never)) = absurd never
