use Rattle.std.proofs.Common.{◌≡◌, ◌+◌, ◌++◌, List, ℕ, None, replicate, arith, subst}
use Rattle.dcc_timing.specs.Recent.{recent_numbers}
use Rattle.dcc_lost.specs.Finding.{HasRead, heard_state}
use Rattle.dcc_lost.proofs.RunLemmas.{run_more, run_grows, run_quiet, run_ends, run_none}
use Rattle.dcc_lost.proofs.finder.LostFinder.push_run.Goals.{After-push-lost}
use Rattle.dcc_lost.proofs.finder.LostFinder.push_run.Goals as goal

-- after one more half-bit of the run
read_next : (c : After-push-lost) (durations : List ℕ)
    → HasRead (heard_state c.args.self.now.heard) (recent_numbers c.args.self.now.recent)
    (recent_numbers c.args.self.now.unused) durations
    → HasRead (heard_state c.push-lost.new.self.heard) (recent_numbers c.push-lost.new.self.recent)
    (recent_numbers c.push-lost.new.self.unused)
    (durations ++ replicate (c.run.at + 1) c.args.us)
read_next c durations read =
    subst (λ l. HasRead (heard_state c.push-lost.new.self.heard) (recent_numbers c.push-lost.new.self.recent)
    (recent_numbers c.push-lost.new.self.unused) l)
    (run_more durations c.args.us c.run.at)
    (c.push-lost.ensures.reads (durations ++ replicate c.run.at c.args.us) (c.run.invariant.reads durations read))

pub run-init : goal.run-init
run-init c = record {
  within = omega arith;
  reads = λ durations read. rw run_none read;
  quiet = λ durations read. rw run_none;
}

pub returns-then-is_some-clause-reads : goal.returns-then-is_some-clause-reads
returns-then-is_some-clause-reads c = read_next (goal.at.returns-then-is_some-clause-reads c).After-push-lost

pub returns-then-is_some-clause-grows : goal.returns-then-is_some-clause-grows
returns-then-is_some-clause-grows c = λ durations read.
    run_grows durations c.args.us c.run.at _ (c.run.invariant.quiet durations read)
    (c.push-lost.ensures.grows (durations ++ replicate c.run.at c.args.us) (c.run.invariant.reads durations read))

pub run-preserved : goal.run-preserved
run-preserved c = record {
  within = omega arith;
  reads = read_next (goal.at.run-preserved c).After-push-lost;
  quiet = λ durations read.
      let none : c.push-lost.result ≡ None = grind arith in
      run_quiet durations c.args.us (c.run.at + 1) _ _ none
      (run_grows durations c.args.us c.run.at _ (c.run.invariant.quiet durations read)
      (c.push-lost.ensures.grows (durations ++ replicate c.run.at c.args.us) (c.run.invariant.reads durations read)));
}

pub returns-clause-grows : goal.returns-clause-grows
returns-clause-grows c =
    λ durations read. run_ends durations c.args.us c.run.at _ (c.run.invariant.quiet durations read)
