use Rattle.std.proofs.Common.{◌+◌, ◌++◌, take, append_assoc, arith, subst}
use Rattle.std.proofs.lemmas.List.{take_more, take_all}
use Rattle.dcc_wire.proofs.ListLemmas.{take_both}
use Rattle.dcc_wire.proofs.PassedBits.{rest_inside}
use Rattle.dcc_lost.specs.MeasuresTrack.{MeasuresTrack}
use Rattle.dcc_lost.proofs.figures.TrackFigures.push_all.Goals as goal

pub halves-preserved : goal.halves-preserved
halves-preserved c =
    let before = c.halves.invariant in
    let passed = c.pass_some-at.ensures in
    let halves = c.args.halves.now in
    record {
      measures = λ durations are.
          rw (take_both halves c.halves.at c.pass_some-at.result durations)
          (passed.measures (durations ++ take c.halves.at halves) (before.measures durations are));
      count = omega (arith, passed.count, before.count);
      inside = rest_inside halves c.halves.at c.pass_some-at.result before.inside passed.within;
    }

pub halves-preserved-then-at-halves : goal.halves-preserved-then-at-halves
halves-preserved-then-at-halves c =
    let before = c.halves.invariant in
    let passed = c.pass_some-at.ensures in
    let halves = c.args.halves.now in
    let at = c.halves.at + c.pass_some-at.result in
    record {
      measures = λ durations are.
          rw (take_more halves at 0 c.if-at-halves.true, ← append_assoc)
          (c.push_inline.ensures.measures (durations ++ take at halves)
          (rw (take_both halves c.halves.at c.pass_some-at.result durations)
          (passed.measures (durations ++ take c.halves.at halves) (before.measures durations are))));
      count = omega (arith, c.push_inline.ensures.count, passed.count, before.count);
      inside = omega (arith, c.if-at-halves.true);
    }

pub returns-clause-measures : goal.returns-clause-measures
returns-clause-measures c = λ durations are.
    let all = take_all c.halves.at c.args.halves.now c.halves-test.false in
    subst (λ l. MeasuresTrack c.halves.self (durations ++ l)) all (c.halves.invariant.measures durations are)
