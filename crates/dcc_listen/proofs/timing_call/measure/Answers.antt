use Rattle.std.proofs.Common.{arith, replicate, subst, sym, take}
use Rattle.std.proofs.lemmas.List.{length-replicate, length-take-le}
use Rattle.std.proofs.lemmas.Result.{err_from_is_err_and}
use Rattle.dcc_io.specs.InputState.{InputState}
use Rattle.dcc_capture.proofs.HalfLemmas.{bytes_taken, halves_taken, none_taken}
use Rattle.dcc_lost.specs.MeasuresTrack.{MeasuresTrack}
use Rattle.dcc_listen.proofs.TimingLemmas.{Measuring, measured_all, measuring_more, measuring_none, measuring_room}
use Rattle.dcc_listen.proofs.TimingLemmas.{measuring_stops}
use Rattle.dcc_listen.proofs.timing_call.measure.Goals as goal

pub runs-init : goal.runs-init
runs-init g c = measuring_none c.args.input.now (MeasuresTrack c.new-figures.result) c.requires c.new-figures.ensures

-- half-bits that the buffer has

pub push_all-requires : goal.push_all-requires
push_all-requires g c =
    let batch = c.take_buffered_halves-count in
    let given = take batch.result batch.new.halves in
    let gave = halves_taken c.runs.input batch.new.input given c.runs.invariant.gave.items.fault batch.ensures.taken in
    measuring_room c.args.input.now c.runs.input batch.new.input (MeasuresTrack c.runs.figures)
    c.runs.figures.timings.halves given c.halves_left-most.result c.halves_left-most.ensures
    c.halves_left-most.type_inv (λ halves are. omega (arith, are.measured.count)) c.runs.invariant gave

pub runs-smaller-then-count-gt0 : goal.runs-smaller-then-count-gt0
runs-smaller-then-count-gt0 g c =
    let batch = c.take_buffered_halves-count in
    let len = length-take-le batch.result batch.new.halves batch.ensures.count in
    let some = c.if-count-gt0.true in
    omega (arith, len, some, bytes_taken _ _ _ batch.ensures.taken)

pub runs-preserved-then-count-gt0 : goal.runs-preserved-then-count-gt0
runs-preserved-then-count-gt0 g c =
    let batch = c.take_buffered_halves-count in
    let given = take batch.result batch.new.halves in
    let gave = halves_taken c.runs.input batch.new.input given c.runs.invariant.gave.items.fault batch.ensures.taken in
    measuring_more c.args.input.now c.runs.input batch.new.input (MeasuresTrack c.runs.figures)
    (MeasuresTrack c.push_all.new.self) given gave c.push_all.ensures.measures c.runs.invariant

-- another word

pub push_run-requires : goal.push_run-requires
push_run-requires g c =
    let none = none_taken _ _ _ _ c.if-count-gt0.false c.take_buffered_halves-count.ensures.taken in
    let answer = rw (c.in-Some.is, none) at
    (c.in_ok-run.ensures.reads (rw none c.runs.invariant.gave.items.fault)) in
    let run = c.in-Some.run' in
    rw length-replicate at (measuring_room c.args.input.now c.runs.input c.read_run.new.input
    (MeasuresTrack c.runs.figures) c.runs.figures.timings.halves (replicate run.n run.us) c.halves_left-most.result
    c.halves_left-most.ensures c.halves_left-most.type_inv (λ halves are. omega (arith, are.measured.count))
    c.runs.invariant answer.0)

pub runs-preserved : goal.runs-preserved
runs-preserved g c =
    let none = none_taken _ _ _ _ c.if-count-gt0.false c.take_buffered_halves-count.ensures.taken in
    let answer = rw (c.in-Some.is, none) at
    (c.in_ok-run.ensures.reads (rw none c.runs.invariant.gave.items.fault)) in
    let run = c.in-Some.run' in
    measuring_more c.args.input.now c.runs.input c.read_run.new.input (MeasuresTrack c.runs.figures)
    (MeasuresTrack c.push_run.new.self) (replicate run.n run.us) answer.0 c.push_run.ensures.measures c.runs.invariant

pub returns-in-None : goal.returns-in-None
returns-in-None g c =
    let none = none_taken _ _ _ _ c.if-count-gt0.false c.take_buffered_halves-count.ensures.taken in
    let answer = rw (c.in-None.is, none) at
    (c.in_ok-run.ensures.reads (rw none c.runs.invariant.gave.items.fault)) in
    measured_all c.args.input.now c.runs.input c.read_run.new.input (MeasuresTrack c.runs.figures) c.runs.invariant
    answer

pub returns-in_err-run : goal.returns-in_err-run
returns-in_err-run g c =
    let p = err_from_is_err_and c.from_residual.result c.from_residual.ensures.1 in
    let none = none_taken _ _ _ _ c.if-count-gt0.false c.take_buffered_halves-count.ensures.taken in
    let so_far = subst (λ (state : InputState). Measuring c.args.input.now state (MeasuresTrack c.runs.figures))
    (sym none) c.runs.invariant in
    rw (p.1, p.2)
    (measuring_stops c.args.input.now c.take_buffered_halves-count.new.input c.read_run.new.input
    (MeasuresTrack c.runs.figures) _ so_far
    (c.in_err-run.ensures.reads (rw none c.runs.invariant.gave.items.fault)))
