use Rattle.std.proofs.Common.{◌++◌, take, subst, sym, IsTrue}
use Rattle.std.proofs.Common.{arith, append-nil}
use Rattle.std.proofs.lemmas.List.{take_all}
use Rattle.dcc_lost.specs.MeasuresTrack.{MeasuresTrack}
use Rattle.dcc_c.proofs.ArrayLemmas.{length_before, one_more}
use Rattle.dcc_c.proofs.meter.dcc_meter_push_many.Goals as goal

pub halves-init : goal.halves-init
halves-init c = record {
  within = omega arith;
  measures = λ track are. subst (MeasuresTrack c.args.meter.now) (sym (append-nil track)) are;
  room = λ track are.
      omega (arith, c.if-halves.false, c.halves-2.ensures.length track (c.timings.ensures track are));
}

pub halves-preserved : goal.halves-preserved
halves-preserved c = record {
  within = omega (arith, c.halves-test.true);
  measures = λ track are.
      let before = c.halves.invariant.measures track are in
      let room = c.halves.invariant.room track are in
      let fits : IsTrue c.try_push_run-taken.result =
      (c.try_push_run-taken.ensures.fits (track ++ take c.halves.at c.args.halves.now) before).1
      (omega (
        arith,
        room,
        length_before track c.args.halves.now c.halves.at c.halves-test.true,
        c.halves-test.true,
      )) in
      subst (MeasuresTrack c.try_push_run-taken.new.self)
      (one_more track c.args.halves.now c.halves.at c.halves-test.true)
      (c.try_push_run-taken.ensures.measures fits (track ++ take c.halves.at c.args.halves.now) before);
  room = c.halves.invariant.room;
}

pub returns-then-halves-clause-fits : goal.returns-then-halves-clause-fits
returns-then-halves-clause-fits c = λ track are few.
    absurd (omega (arith, c.if-halves.true, few, c.halves-2.ensures.length track (c.timings.ensures track are)))

pub returns-clause-full : goal.returns-clause-full
returns-clause-full c = λ track are many.
    absurd (omega (arith, many, c.halves.invariant.room track are))

pub returns-clause-takes : goal.returns-clause-takes
returns-clause-takes c = λ one track are.
    subst (λ l. MeasuresTrack c.halves.meter (track ++ l))
    (take_all c.halves.at c.args.halves.now (omega (arith, c.halves-test.false)))
    (c.halves.invariant.measures track are)
