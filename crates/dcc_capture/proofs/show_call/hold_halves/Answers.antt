use Rattle.std.proofs.Common.{◌++◌, take, append-nil, arith}
use Rattle.std.proofs.lemmas.List.{take_all}
use Rattle.std.proofs.lemmas.Result.{err_from_is_err_and}
use Rattle.dcc_capture.proofs.HoldLemmas.{holds_next, holds_nothing, holds_until, next_taken, place_of}
use Rattle.dcc_capture.proofs.HoldLemmas.{rest_length}
use Rattle.dcc_capture.proofs.show_call.hold_halves.Goals as goal

pub halves-init : goal.halves-init
halves-init g c = record {
  stands = λ durations from. rw (append-nil durations) from;
  holds = λ durations from same. holds_nothing durations _ _;
  inside = omega arith;
}

pub halves-preserved : goal.halves-preserved
halves-preserved g c =
    let halves = c.args.halves.now in
    let i = c.halves.taken in
    let k = c.push_many-shown.result.at in
    let before = c.halves.invariant in
    let pushed = c.push_many-shown.ensures in
    let rest = rest_length halves i before.inside in
    let some = pushed.some (omega (arith, rest, c.halves-test.true)) in
    record {
      stands = λ durations from.
          rw (next_taken durations halves i k)
          (pushed.stands (durations ++ take i halves) (before.stands durations from));
      holds = λ durations from same.
          holds_next durations halves i k _
          (pushed.sees (durations ++ take i halves) (before.stands durations from)) (before.holds durations from same)
          (c.in_ok-hold_seen.ensures _ (place_of durations halves i k c.args.before some before.inside same));
      inside = omega (arith, rest, pushed.within, before.inside);
    }

pub returns-in_err-hold_seen-clause-holds : goal.returns-in_err-hold_seen-clause-holds
returns-in_err-hold_seen-clause-holds g c =
    let p = err_from_is_err_and c.from_residual.result c.from_residual.ensures.1 in
    let halves = c.args.halves.now in
    let i = c.halves.taken in
    let k = c.push_many-shown.result.at in
    let before = c.halves.invariant in
    let pushed = c.push_many-shown.ensures in
    let rest = rest_length halves i before.inside in
    let some = pushed.some (omega (arith, rest, c.halves-test.true)) in
    rw (p.1, p.2) (λ durations from same.
    holds_until durations halves i k _
    (pushed.sees (durations ++ take i halves) (before.stands durations from)) (before.holds durations from same) _
    (c.in_err-hold_seen.ensures _ (place_of durations halves i k c.args.before some before.inside same)))

pub returns-clause-stands : goal.returns-clause-stands
returns-clause-stands g c = λ durations from.
    let all = take_all c.halves.taken c.args.halves.now c.halves-test.false in
    rw all at (c.halves.invariant.stands durations from)

pub returns-clause-holds : goal.returns-clause-holds
returns-clause-holds g c = λ durations from same.
    rw (take_all c.halves.taken c.args.halves.now c.halves-test.false) at
    (c.halves.invariant.holds durations from same)
