-- The state of a `TrackFigures`.
use Rattle.std.specs.Prelude.{◌≡◌, ◌≢◌, ◌≤◌, ℕ, min, Bool, true, List, [], ◌∷◌, ◌++◌, length, replicate, Option, Some}
use Rattle.std.specs.Prelude.{None, if◌then◌else◌}
use Rattle.dcc_wire.specs.declared.half.Half.TheVariants.{One}
use Rattle.dcc_timing.specs.declared.timings.Timings.{Timings}
use Rattle.dcc_timing.specs.Measures.{Measures}
use Rattle.dcc_timing.specs.Numbers.{keep_last}
use Rattle.dcc_lost.specs.declared.figures.Ended.{Ended}
use Rattle.dcc_lost.specs.Nearest.{nearest_class}
use Rattle.dcc_lost.specs.Preambles.{all_unused_at_end, lost_count, nearest_ones_at_end, preamble_at_end}
use Rattle.dcc_lost.specs.Preambles.{shortest_preamble}

-- for each half-bit of `durations`, the preamble directly before this half-bit. The half-bits
-- `before` come before `durations`.
unfoldable pub preambles_from : List ℕ → List ℕ → List ℕ
preambles_from before [] = []
preambles_from before (us ∷ durations) = preamble_at_end before ∷ preambles_from (before ++ us ∷ []) durations

-- the shortest preamble that `ended` stores, or `None` if it has no packet
abbrev pub ended_preamble : Ended → Option ℕ
ended_preamble ended = if ended.has_packet then Some ended.shortest else None

-- The numbers belong to the list `durations`. At the end of the list, `ones` are the half-bits of
-- ones, and `unused` are the half-bits that no outcome uses, each at most 65535. `last` has the
-- preamble before each of the last 130 half-bits. `ended` has the number of lost packets, at most
-- 4294967295, and the shortest preamble.
pub record AreLostFigures (ended : Ended) (ones unused : ℕ) (last durations : List ℕ) : Type 0 where
  pub ones_are : ones ≡ min 65535 (nearest_ones_at_end durations)
  pub unused_are : unused ≡ min 65535 (all_unused_at_end durations)
  pub preambles : last ≡ keep_last 130 (preambles_from [] durations)
  pub count : ended.lost ≡ min 4294967295 (lost_count durations)
  pub few : lost_count durations ≤ length durations
  pub least : ended_preamble ended ≡ shortest_preamble durations

-- the parts of a `TrackFigures` belong to the list `durations`
pub record AreTrackFigures (timings : Timings) (ended : Ended) (ones unused : ℕ) (last durations : List ℕ)
    : Type 0 where
  pub measured : Measures timings durations
  pub lost : AreLostFigures ended ones unused last durations
