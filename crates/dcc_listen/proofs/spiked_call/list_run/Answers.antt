use Rattle.std.proofs.Common.{◌≡◌, ◌++◌, ◌∷◌, ◌+◌, ◌-◌, [], Ok, Err, append-nil, arith, refl, replicate, subst}
use Rattle.std.proofs.lemmas.Result.{err_from_is_err_and}
use Rattle.dcc_lost.specs.Joining.{Joins}
use Rattle.dcc_capture.proofs.HoldLemmas.{holds_more, holds_nothing}
use Rattle.dcc_listen.proofs.LostCallLemmas.{run_next, run_pieces, run_until}
use Rattle.dcc_listen.proofs.SpikedCallLemmas.{grows_here, run_length, some_here}
use Rattle.dcc_listen.proofs.spiked_call.list_run.Goals as goal

pub halves-init : goal.halves-init
halves-init g c = record {
  within = omega arith;
  joins = λ limit durations joins. rw (append-nil durations) joins;
  holds = λ limit durations joins is. holds_nothing durations _ _;
}

pub halves-preserved : goal.halves-preserved
halves-preserved g c =
    let us = c.args.run.us in
    let taken = c.halves.taken in
    let so_far = c.halves.invariant in
    let push = c.push-found.ensures in
    record {
      within = omega arith;
      joins = λ limit durations joins.
          subst (Joins limit c.push-found.new.self) (run_pieces durations us taken 1)
          (push.reads limit _ (so_far.joins limit durations joins));
      holds = λ limit durations joins is.
          let here = so_far.joins limit durations joins in
          let count = run_length durations us taken c.args.before is in
          holds_more (so_far.holds limit durations joins is) (us ∷ []) _
          (grows_here limit c.push-found.result _ us _ count (push.grows limit _ here)) (Ok tt) [] _ refl
          (run_next us taken 1)
          (c.in_ok-hold_spiked.ensures (some_here c.push-found.result _ _ count (push.some limit _ here)));
    }

pub returns-clause-joins : goal.returns-clause-joins
returns-clause-joins g c = λ limit durations joins.
    let all : c.halves.taken ≡ c.args.run.n = omega (arith, c.halves.invariant.within) in
    rw all at (c.halves.invariant.joins limit durations joins)

pub returns-clause-holds : goal.returns-clause-holds
returns-clause-holds g c = λ limit durations joins is.
    let all : c.halves.taken ≡ c.args.run.n = omega (arith, c.halves.invariant.within) in
    rw all at (c.halves.invariant.holds limit durations joins is)

pub returns-in_err-hold_spiked-clause-holds : goal.returns-in_err-hold_spiked-clause-holds
returns-in_err-hold_spiked-clause-holds g c =
    let p = err_from_is_err_and c.from_residual.result c.from_residual.ensures.1 in
    let us = c.args.run.us in
    let taken = c.halves.taken in
    let so_far = c.halves.invariant in
    let push = c.push-found.ensures in
    rw (p.1, p.2) (λ limit durations joins is.
    let here = so_far.joins limit durations joins in
    let count = run_length durations us taken c.args.before is in
    holds_more (so_far.holds limit durations joins is) (us ∷ []) _
    (grows_here limit c.push-found.result _ us _ count (push.grows limit _ here)) (Err _)
    (replicate (c.args.run.n - (taken + 1)) us) _ tt (run_until us taken 1 c.args.run.n (omega arith))
    (c.in_err-hold_spiked.ensures (some_here c.push-found.result _ _ count (push.some limit _ here))))
