-- The state of a finder of lost packets.
use Rattle.std.specs.Prelude.{◌≡◌, ℕ, Bool, List, [], Option, Some, None, if◌then◌else◌}
use Rattle.dcc_wire.specs.Framing.{Rest}
use Rattle.dcc_wire.specs.Kept.{kept_rest}
use Rattle.dcc_timing.specs.Numbers.{keep_last}
use Rattle.dcc_lost.specs.declared.heard.Heard.{Heard}
use Rattle.dcc_lost.specs.Unused.{Hears, unused_from}

-- the state of a framer, and the numbers of half-bits that follow its last outcome
pub record HeardState : Type 0 where
  -- the state of the framer
  pub framer : Rest
  -- the number of half-bits at the end that no outcome uses, at most 20
  pub unused : ℕ
  -- the number of half-bits after the last outcome, if this outcome is a refusal
  pub since_refusal : Option ℕ

-- the number `since` of half-bits after the last outcome, or `None` if this outcome is not a
-- refusal. The argument `refused` is true if the last outcome is a refusal.
abbrev pub since_of : Bool → ℕ → Option ℕ
since_of refused since = if refused then Some since else None

-- the state that `heard` stores as plain numbers
abbrev pub heard_state : Heard → HeardState
heard_state heard = record {
  framer = kept_rest heard.framer;
  unused = heard.unused;
  since_refusal = since_of heard.refused heard.since;
}

-- a finder has read the list `durations`: `decoder` is the state of its framer after this list, and
-- `last` are the last 130 durations. For each of these durations, `free` has the number of
-- half-bits directly before this duration that no outcome uses, at most 20.
pub record HasRead (decoder : HeardState) (last free durations : List ℕ) : Type 0 where
  pub heard : Hears decoder.framer decoder.unused decoder.since_refusal durations
  pub recent : last ≡ keep_last 130 durations
  pub unused : free ≡ keep_last 130 (unused_from [] durations)
