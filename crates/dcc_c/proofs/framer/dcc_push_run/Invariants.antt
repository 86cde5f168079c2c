use Rattle.std.proofs.Common.{◌≡◌, ◌≢◌, ◌≤◌, ◌-◌}
use Rattle.dcc_wire.specs.Kept.{kept_rest}
use Rattle.dcc_c.specs.Outcomes.{outcome_numbers, outcome_seen, seen_at_answer}
use Rattle.dcc_c.proofs.FramerLemmas.{Takes}
use Rattle.dcc_c.proofs.framer.dcc_push_run.Given as goal

abbrev pub invariant-run : goal.invariant-run
invariant-run l = record {
  within : l.at ≤ l.n;
  takes : Takes (kept_rest l.initial.framer) (kept_rest l.framer) l.us l.at l.ended l.outcome.at
      (seen_at_answer l.ended l.outcome);
  numbers : l.ended ≢ 0 → l.outcome ≡ outcome_numbers l.outcome.at (outcome_seen l.outcome);
  bit : l.ended ≤ 1;
  kept : l.ended ≡ 0 → l.outcome ≡ l.initial.outcome;
}

abbrev pub decreases-run : goal.decreases-run
decreases-run l = l.n - l.at
