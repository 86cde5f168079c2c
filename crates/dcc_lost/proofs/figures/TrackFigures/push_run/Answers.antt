use Rattle.std.proofs.Common.{◌≡◌, ℕ, ◌++◌, arith, replicate, subst}
use Rattle.dcc_lost.specs.MeasuresTrack.{MeasuresTrack}
use Rattle.dcc_lost.proofs.RunLemmas.{run_more, run_none}
use Rattle.dcc_lost.proofs.figures.TrackFigures.push_run.Goals as goal

pub run-init : goal.run-init
run-init c = record {
  within = omega arith;
  count = omega arith;
  measures = λ durations are. rw run_none are;
}

pub run-preserved : goal.run-preserved
run-preserved c = record {
  within = omega arith;
  count = omega (arith, c.push.ensures.count, c.run.invariant.count);
  measures = λ durations are.
      subst (λ l. MeasuresTrack c.push.new.self l) (run_more durations c.args.us c.run.at)
      (c.push.ensures.measures (durations ++ replicate c.run.at c.args.us) (c.run.invariant.measures durations are));
}

pub returns-clause-measures : goal.returns-clause-measures
returns-clause-measures c = λ durations are.
    let all : c.run.at ≡ c.args.n = omega (arith, c.run.invariant.within, c.run-test.false) in
    subst (λ (n : ℕ). MeasuresTrack c.run.self (durations ++ replicate n c.args.us)) all
    (c.run.invariant.measures durations are)
