use Rattle.std.proofs.Common.{◌≡◌, ◌≤◌, ◌-◌, ◌++◌, ℕ, List, length, take, true}
use Rattle.dcc_wire.specs.Framing.{StandsFor, is_hunting, seen}
use Rattle.dcc_wire.specs.Kept.{kept_rest}
use Rattle.dcc_timing.specs.Ones.{AllOnes}
use Rattle.dcc_timing.proofs.timings.take_ones.Given as goal

abbrev pub invariant-ones : goal.invariant-ones
invariant-ones l = record {
  stands : (durations : List ℕ) → StandsFor (kept_rest l.initial.framer) durations
      → StandsFor (kept_rest l.framer) (durations ++ take l.at l.halves);
  sees : (durations : List ℕ) → StandsFor (kept_rest l.initial.framer) durations
      → seen (durations ++ take l.at l.halves) ≡ seen durations;
  ones : AllOnes (take l.at l.halves);
  hunts : is_hunting (kept_rest l.framer) ≡ true;
  left : l.at ≡ 0 → l.framer ≡ l.initial.framer;
  inside : l.at ≤ length l.halves;
}

abbrev pub decreases-ones : goal.decreases-ones
decreases-ones l = length l.halves - l.at
