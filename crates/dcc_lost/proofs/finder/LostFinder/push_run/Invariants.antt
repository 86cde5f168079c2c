use Rattle.std.proofs.Common.{◌≡◌, ◌≤◌, ◌-◌, ◌++◌, ℕ, List, replicate}
use Rattle.dcc_lost.specs.Causes.{packets_lost}
use Rattle.dcc_timing.specs.Recent.{recent_numbers}
use Rattle.dcc_lost.specs.Finding.{HasRead, heard_state}
use Rattle.dcc_lost.proofs.finder.LostFinder.push_run.Given as goal

abbrev pub invariant-run : goal.invariant-run
invariant-run l = record {
  within : l.at ≤ l.n;
  reads : (durations : List ℕ) → HasRead (heard_state l.initial.self.heard) (recent_numbers l.initial.self.recent)
      (recent_numbers l.initial.self.unused) durations
      → HasRead (heard_state l.self.heard) (recent_numbers l.self.recent) (recent_numbers l.self.unused)
      (durations ++ replicate l.at l.us);
  quiet : (durations : List ℕ) → HasRead (heard_state l.initial.self.heard) (recent_numbers l.initial.self.recent)
      (recent_numbers l.initial.self.unused) durations
      → packets_lost (durations ++ replicate l.at l.us) ≡ packets_lost durations;
}

abbrev pub decreases-run : goal.decreases-run
decreases-run l = l.n - l.at
