use Rattle.std.proofs.Common.{◌++◌, ◌+◌, ◌∙◌, [], Ok, Err}
use Rattle.std.proofs.Common.{append_assoc, append-nil, drop, take-append-drop, arith, ap, refl}
use Rattle.std.proofs.Common.{sym}
use Rattle.std.proofs.lemmas.List.{take_all, take_more}
use Rattle.std.proofs.lemmas.Result.{err_from_is_err_and}
use Rattle.dcc_capture.proofs.HoldLemmas.{holds_more, holds_nothing}
use Rattle.dcc_listen.proofs.SpikedCallLemmas.{count_in, grows_here, some_here}
use Rattle.dcc_listen.proofs.spiked_call.list_halves.Goals as goal

pub halves-init : goal.halves-init
halves-init g c = record {
  within = omega arith;
  joins = λ limit durations joins. rw (append-nil durations) joins;
  holds = λ limit durations joins is. holds_nothing durations _ _;
}

pub halves-preserved : goal.halves-preserved
halves-preserved g c =
    let halves = c.args.halves.now in
    let i = c.halves.taken in
    let so_far = c.halves.invariant in
    let next = take_more halves i 0 (omega arith) in
    let push = c.push-found.ensures in
    record {
      within = omega arith;
      joins = λ limit durations joins.
          rw (next, ← append_assoc) (push.reads limit _ (so_far.joins limit durations joins));
      holds = λ limit durations joins is.
          let here = so_far.joins limit durations joins in
          let count = count_in durations halves i c.args.before is (omega arith) in
          rw next (holds_more (so_far.holds limit durations joins is) _ _
          (grows_here limit c.push-found.result _ _ _ count (push.grows limit _ here)) (Ok tt) [] _ refl
          (sym (append-nil _))
          (c.in_ok-hold_spiked.ensures (some_here c.push-found.result _ _ count (push.some limit _ here))));
    }

pub returns-clause-joins : goal.returns-clause-joins
returns-clause-joins g c = λ limit durations joins.
    let all = take_all c.halves.taken c.args.halves.now c.halves-test.false in
    rw all at (c.halves.invariant.joins limit durations joins)

pub returns-clause-holds : goal.returns-clause-holds
returns-clause-holds g c = λ limit durations joins is.
    let all = take_all c.halves.taken c.args.halves.now c.halves-test.false in
    rw all at (c.halves.invariant.holds limit durations joins is)

pub returns-in_err-hold_spiked-clause-holds : goal.returns-in_err-hold_spiked-clause-holds
returns-in_err-hold_spiked-clause-holds g c =
    let p = err_from_is_err_and c.from_residual.result c.from_residual.ensures.1 in
    let halves = c.args.halves.now in
    let i = c.halves.taken in
    let so_far = c.halves.invariant in
    let next = take_more halves i 0 (omega arith) in
    let push = c.push-found.ensures in
    rw (p.1, p.2) (λ limit durations joins is.
    let here = so_far.joins limit durations joins in
    let count = count_in durations halves i c.args.before is (omega arith) in
    holds_more (so_far.holds limit durations joins is) _ _
    (grows_here limit c.push-found.result _ _ _ count (push.grows limit _ here)) (Err _) (drop (i + 1) halves) _ tt
    (sym (take-append-drop (i + 1) halves) ∙ ap (λ l. l ++ drop (i + 1) halves) next)
    (c.in_err-hold_spiked.ensures (some_here c.push-found.result _ _ count (push.some limit _ here))))
