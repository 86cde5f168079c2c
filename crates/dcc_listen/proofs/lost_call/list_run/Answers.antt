use Rattle.std.proofs.Common.{◌++◌, ◌-◌, ◌+◌, ◌≡◌, [], Ok, Err, replicate, append-nil, arith, refl, subst}
use Rattle.std.proofs.lemmas.Result.{err_from_is_err_and}
use Rattle.dcc_lost.specs.Reads.{Follows}
use Rattle.dcc_capture.proofs.HoldLemmas.{holds_more, holds_nothing}
use Rattle.dcc_listen.proofs.LostCallLemmas.{at_some_half, half_of, run_next, run_pieces, run_until}
use Rattle.dcc_listen.proofs.lost_call.list_run.Goals as goal

pub pieces-init : goal.pieces-init
pieces-init g c = record {
  within = omega arith;
  follows = λ durations follows. rw (append-nil durations) follows;
  holds = λ durations follows is. holds_nothing durations _ _;
}

pub pieces-preserved : goal.pieces-preserved
pieces-preserved g c =
    let us = c.args.run.us in
    let taken = c.pieces.taken in
    let at = c.push_run-piece.result.at in
    let so_far = c.pieces.invariant in
    let within = at_some_half _ c.push_run-piece.result (omega arith) c.push_run-piece.ensures.nothing
    c.push_run-piece.ensures.something in
    record {
      within = omega (arith, within, so_far.within);
      follows = λ durations follows.
          subst (Follows c.push_run-piece.new.self) (run_pieces durations us taken at)
          (c.push_run-piece.ensures.reads _ (so_far.follows durations follows));
      holds = λ durations follows is.
          holds_more (so_far.holds durations follows is) (replicate at us) _
          (c.push_run-piece.ensures.grows _ (so_far.follows durations follows)) (Ok tt) [] _ refl
          (run_next us taken at) (c.in_ok-hold_lost.ensures _ (half_of durations us taken at is within.0));
    }

pub returns-clause-follows : goal.returns-clause-follows
returns-clause-follows g c = λ durations follows.
    let all : c.pieces.taken ≡ c.args.run.n = omega (arith, c.pieces.invariant.within) in
    rw all at (c.pieces.invariant.follows durations follows)

pub returns-clause-holds : goal.returns-clause-holds
returns-clause-holds g c = λ durations follows is.
    let all : c.pieces.taken ≡ c.args.run.n = omega (arith, c.pieces.invariant.within) in
    rw all at (c.pieces.invariant.holds durations follows is)

pub returns-in_err-hold_lost-clause-holds : goal.returns-in_err-hold_lost-clause-holds
returns-in_err-hold_lost-clause-holds g c =
    let p = err_from_is_err_and c.from_residual.result c.from_residual.ensures.1 in
    let us = c.args.run.us in
    let taken = c.pieces.taken in
    let at = c.push_run-piece.result.at in
    let so_far = c.pieces.invariant in
    let within = at_some_half _ c.push_run-piece.result (omega arith) c.push_run-piece.ensures.nothing
    c.push_run-piece.ensures.something in
    rw (p.1, p.2) (λ durations follows is.
    holds_more (so_far.holds durations follows is) (replicate at us) _
    (c.push_run-piece.ensures.grows _ (so_far.follows durations follows)) (Err _)
    (replicate (c.args.run.n - (taken + at)) us) _ tt
    (run_until us taken at c.args.run.n (omega (arith, within, so_far.within)))
    (c.in_err-hold_lost.ensures _ (half_of durations us taken at is within.0)))
