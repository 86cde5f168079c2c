use Rattle.std.proofs.Common.{◌++◌, ◌∷◌, ◌+◌, ◌≡◌, [], Ok, Err}
use Rattle.std.proofs.Common.{append_assoc, append-nil, drop, take, arith, ap, refl, sym}
use Rattle.std.proofs.Common.{◌∙◌, take-append-drop}
use Rattle.std.proofs.lemmas.List.{take_all, take_more}
use Rattle.std.proofs.lemmas.Result.{err_from_is_err_and}
use Rattle.dcc_capture.proofs.HoldLemmas.{holds_more, holds_nothing}
use Rattle.dcc_listen.proofs.LostCallLemmas.{half_in}
use Rattle.dcc_listen.proofs.lost_call.list_halves.Goals as goal

pub halves-init : goal.halves-init
halves-init g c = record {
  within = omega arith;
  follows = λ durations follows. rw (append-nil durations) follows;
  holds = λ durations follows is. holds_nothing durations _ _;
}

pub halves-preserved : goal.halves-preserved
halves-preserved g c =
    let halves = c.args.halves.now in
    let i = c.halves.taken in
    let so_far = c.halves.invariant in
    let next = take_more halves i 0 (omega arith) in
    record {
      within = omega arith;
      follows = λ durations follows.
          rw (next, ← append_assoc) (c.push-lost.ensures.reads _ (so_far.follows durations follows));
      holds = λ durations follows is.
          rw next (holds_more (so_far.holds durations follows is) _ _
          (c.push-lost.ensures.grows _ (so_far.follows durations follows)) (Ok tt) [] _ refl (sym (append-nil _))
          (c.in_ok-hold_lost.ensures _ (half_in durations halves i is (omega arith))));
    }

pub returns-clause-follows : goal.returns-clause-follows
returns-clause-follows g c = λ durations follows.
    let all = take_all c.halves.taken c.args.halves.now c.halves-test.false in
    rw all at (c.halves.invariant.follows durations follows)

pub returns-clause-holds : goal.returns-clause-holds
returns-clause-holds g c = λ durations follows is.
    let all = take_all c.halves.taken c.args.halves.now c.halves-test.false in
    rw all at (c.halves.invariant.holds durations follows is)

pub returns-in_err-hold_lost-clause-holds : goal.returns-in_err-hold_lost-clause-holds
returns-in_err-hold_lost-clause-holds g c =
    let p = err_from_is_err_and c.from_residual.result c.from_residual.ensures.1 in
    let halves = c.args.halves.now in
    let i = c.halves.taken in
    let so_far = c.halves.invariant in
    let next = take_more halves i 0 (omega arith) in
    rw (p.1, p.2) (λ durations follows is.
    holds_more (so_far.holds durations follows is) _ _
    (c.push-lost.ensures.grows _ (so_far.follows durations follows)) (Err _) (drop (i + 1) halves) _ tt
    (sym (take-append-drop (i + 1) halves) ∙ ap (λ l. l ++ drop (i + 1) halves) next)
    (c.in_err-hold_lost.ensures _ (half_in durations halves i is (omega arith))))
