use Rattle.std.proofs.Common.{◌≡◌, ◌≤◌, ◌-◌, ◌++◌, ℕ, List, length, take}
use Rattle.dcc_wire.specs.Framing.{StandsFor, seen}
use Rattle.dcc_wire.specs.Kept.{kept_rest}
use Rattle.dcc_c.proofs.push_many.dcc_push_many.Given as goal

abbrev pub invariant-halves : goal.invariant-halves
invariant-halves l = record {
  within : l.at ≤ length l.halves;
  stands : (track : List ℕ) → StandsFor (kept_rest l.initial.framer) track
      → StandsFor (kept_rest l.framer) (track ++ take l.at l.halves);
  sees : (track : List ℕ) → StandsFor (kept_rest l.initial.framer) track
      → seen (track ++ take l.at l.halves) ≡ seen track;
  outcome : l.outcome ≡ l.initial.outcome;
}

abbrev pub decreases-halves : goal.decreases-halves
decreases-halves l = length l.halves - l.at
