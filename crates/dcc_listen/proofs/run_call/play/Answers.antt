use Rattle.std.proofs.Common.{arith, replicate, take}
use Rattle.std.proofs.lemmas.List.{length-take-le}
use Rattle.std.proofs.lemmas.Result.{err_from_is_err_and}
use Rattle.dcc_capture.proofs.HalfLemmas.{bytes_taken, halves_taken, none_taken}
use Rattle.dcc_listen.proofs.RunLemmas.{Hearing-start, Hearing-more, hears_up_to, hears_all}
use Rattle.dcc_listen.proofs.run_call.play.Goals as goal

pub runs-init : goal.runs-init
runs-init g c = Hearing-start c.requires c.new-framer.ensures

-- half-bits that the buffer has

pub runs-smaller-then-count-gt0 : goal.runs-smaller-then-count-gt0
runs-smaller-then-count-gt0 g c =
    let batch = c.take_buffered_halves-count in
    let len = length-take-le batch.result batch.new.halves batch.ensures.count in
    let some = c.if-count-gt0.true in
    omega (arith, len, some, bytes_taken _ _ _ batch.ensures.taken)

pub runs-preserved-then-count-gt0 : goal.runs-preserved-then-count-gt0
runs-preserved-then-count-gt0 g c =
    let before = c.runs.invariant in
    let batch = c.take_buffered_halves-count in
    let given = take batch.result batch.new.halves in
    let gave = halves_taken c.runs.input batch.new.input given before.gave.fault batch.ensures.taken in
    Hearing-more before given gave.items (c.hear_piece.ensures.stands before.halves before.stands)
    (c.hear_piece.ensures.since before.halves before.stands _ before.heard)

-- another word

pub runs-preserved : goal.runs-preserved
runs-preserved g c =
    let before = c.runs.invariant in
    let none = none_taken _ _ _ _ c.if-count-gt0.false c.take_buffered_halves-count.ensures.taken in
    let run = c.in-Some.run' in
    let read = c.in_ok-run in
    let answer = rw (c.in-Some.is, none) at (read.ensures.reads (rw none before.gave.fault)) in
    Hearing-more before (replicate run.n run.us) answer.0.items
    (c.hear_half_run.ensures.pushes.stands before.halves before.stands)
    (c.hear_half_run.ensures.since before.halves before.stands _ before.heard)

pub returns-in_err-run : goal.returns-in_err-run
returns-in_err-run g c =
    let p = err_from_is_err_and c.from_residual.result c.from_residual.ensures.1 in
    let before = c.runs.invariant in
    let none = none_taken _ _ _ _ c.if-count-gt0.false c.take_buffered_halves-count.ensures.taken in
    rw (p.1, p.2) (hears_up_to before _ _ _ _ none (c.in_err-run.ensures.reads (rw none before.gave.fault)))

pub returns : goal.returns
returns g c =
    let before = c.runs.invariant in
    let none = none_taken _ _ _ _ c.if-count-gt0.false c.take_buffered_halves-count.ensures.taken in
    let end = c.in_ok-run in
    let answer = rw (c.in-None.is, none) at (end.ensures.reads (rw none before.gave.fault)) in
    let wrote = c.in_ok-write_fleet.ensures in
    ((hears_all before answer, wrote.0), wrote.1)

pub returns-in_err-write_fleet : goal.returns-in_err-write_fleet
returns-in_err-write_fleet g c =
    let p = err_from_is_err_and c.from_residual-in_err-write_fleet.result
    c.from_residual-in_err-write_fleet.ensures.1 in
    let before = c.runs.invariant in
    let none = none_taken _ _ _ _ c.if-count-gt0.false c.take_buffered_halves-count.ensures.taken in
    let heard = c.in_ok-run in
    let answer = rw (c.in-None.is, none) at (heard.ensures.reads (rw none before.gave.fault)) in
    let wrote = c.in_err-write_fleet.ensures in
    rw (p.1, p.2) ((hears_all before answer, wrote.0), wrote.1)
