use Rattle.std.proofs.Common.{◌≡◌, ◌-◌, ap, arith, length}
use Rattle.std.proofs.lemmas.List.{length-replicate, length-take-le}
use Rattle.std.proofs.lemmas.Result.{err_from_is_err_and}
use Rattle.dcc_io.specs.InputState.{InputState}
use Rattle.dcc_capture.proofs.HalfLemmas.{bytes_taken, none_taken}
use Rattle.dcc_capture.proofs.HoldLemmas.{Listing-held, count_before, next_halves, stops_held}
use Rattle.dcc_capture.proofs.LinesLemmas.{Listing-start, Listing-wrote}
use Rattle.dcc_capture.proofs.LinesLemmas.{counted_halves, stops_before_read, stops_at_fault}
use Rattle.dcc_listen.proofs.SpikedCallLemmas.{closed_only_adds, fails_found, found_at_end, none_closed, with_end}
use Rattle.dcc_listen.proofs.spiked_call.list.Goals as goal

pub runs-init : goal.runs-init
runs-init g c = rw c.new-held.ensures (Listing-start (none_closed c.args.limit) c.requires c.new-finder.ensures)

pub overflow_sub-before : goal.overflow_sub-before
overflow_sub-before g c =
    let gave = next_halves c.runs.invariant c.take_buffered_halves-count.ensures.taken in
    omega (arith, gave.left, c.runs.invariant.gave.left, c.halves_left.ensures, c.halves_left-most.ensures)

pub overflow_sub-before-in-runs : goal.overflow_sub-before-in-runs
overflow_sub-before-in-runs g c =
    let taken = c.take_buffered_halves-count.ensures in
    let gave = next_halves c.runs.invariant taken.taken in
    let len = length-take-le c.take_buffered_halves-count.result c.take_buffered_halves-count.new.halves taken.count in
    omega (arith, gave.left, c.runs.invariant.gave.left, c.halves_left.ensures, c.halves_left-most.ensures, len)

-- half-bits at hand

pub runs-smaller-then-count-gt0 : goal.runs-smaller-then-count-gt0
runs-smaller-then-count-gt0 g c =
    let taken = c.take_buffered_halves-count.ensures in
    let len = length-take-le c.take_buffered_halves-count.result c.take_buffered_halves-count.new.halves taken.count in
    let some = c.if-count-gt0.true in
    omega (arith, len, some, bytes_taken _ _ _ taken.taken)

pub runs-preserved-then-count-gt0 : goal.runs-preserved-then-count-gt0
runs-preserved-then-count-gt0 g c =
    let listing = c.runs.invariant in
    let taken = c.take_buffered_halves-count.ensures in
    let gave = next_halves listing taken.taken in
    let before = count_before _ _ taken.count
    (counted_halves _ listing gave c.halves_left-most.ensures c.halves_left.ensures) in
    Listing-held listing gave (c.in_ok-list_halves.ensures.joins c.args.limit listing.halves listing.stands)
    (c.in_ok-list_halves.ensures.holds c.args.limit listing.halves listing.stands before)

pub returns-in_err-list_halves : goal.returns-in_err-list_halves
returns-in_err-list_halves g c =
    let p = err_from_is_err_and c.from_residual.result c.from_residual.ensures.1 in
    let listing = c.runs.invariant in
    let taken = c.take_buffered_halves-count.ensures in
    let gave = next_halves listing taken.taken in
    let before = count_before _ _ taken.count
    (counted_halves _ listing gave c.halves_left-most.ensures c.halves_left.ensures) in
    rw (p.1, p.2) (fails_found c.args.words c.args.limit _ _ _ _ gave.items.fault
    (stops_held listing (closed_only_adds c.args.limit) gave
    (c.in_err-list_halves.ensures.holds c.args.limit listing.halves listing.stands before)))

-- another word

pub list_run-requires : goal.list_run-requires
list_run-requires g c =
    let none = none_taken _ _ _ _ c.if-count-gt0.false c.take_buffered_halves-count.ensures.taken in
    let took = rw (c.in-Ok-Some.is, c.in-Ok-Some.field-0-is, none) at c.in_ok-run.ensures in
    let taken = c.take_buffered_halves-count.ensures in
    let before = count_before _ _ taken.count
    (counted_halves _ c.runs.invariant (next_halves c.runs.invariant taken.taken) c.halves_left-most.ensures
    c.halves_left.ensures) in
    let count = length-replicate c.in-Ok-Some.run'.n c.in-Ok-Some.run'.us in
    omega (
      arith,
      before,
      count,
      took.0.0.left,
      c.runs.invariant.gave.left,
      c.halves_left-most.ensures,
      c.halves_left-most.type_inv,
    )

pub runs-preserved : goal.runs-preserved
runs-preserved g c =
    let none = none_taken _ _ _ _ c.if-count-gt0.false c.take_buffered_halves-count.ensures.taken in
    let took = rw (c.in-Ok-Some.is, c.in-Ok-Some.field-0-is, none) at c.in_ok-run.ensures in
    let listing = Listing-wrote c.runs.invariant took.1 took.2 in
    let same = ap (λ (input : InputState). input.halves) none in
    let before : c.halves_left-most.result - c.halves_left.result - c.take_buffered_halves-count.result
    ≡ length listing.halves =
    omega (arith, c.halves_left-most.ensures, c.halves_left.ensures, same, c.if-count-gt0.false, listing.gave.left) in
    let ran = c.in_ok-list_run-in-Ok-Some.ensures in
    Listing-held listing took.0.0 (ran.joins c.args.limit listing.halves listing.stands)
    (ran.holds c.args.limit listing.halves listing.stands before)

pub returns-in_err-list_run-in-Ok-Some : goal.returns-in_err-list_run-in-Ok-Some
returns-in_err-list_run-in-Ok-Some g c =
    let none = none_taken _ _ _ _ c.if-count-gt0.false c.take_buffered_halves-count.ensures.taken in
    let p = err_from_is_err_and c.from_residual-in_err-list_run-in-Ok-Some.result
    c.from_residual-in_err-list_run-in-Ok-Some.ensures.1 in
    let took = rw (c.in-Ok-Some.is, c.in-Ok-Some.field-0-is, none) at c.in_ok-run.ensures in
    let listing = Listing-wrote c.runs.invariant took.1 took.2 in
    let same = ap (λ (input : InputState). input.halves) none in
    let before : c.halves_left-most.result - c.halves_left.result - c.take_buffered_halves-count.result
    ≡ length listing.halves =
    omega (arith, c.halves_left-most.ensures, c.halves_left.ensures, same, c.if-count-gt0.false, listing.gave.left) in
    rw (p.1, p.2) (fails_found c.args.words c.args.limit _ _ _ _ took.0.0.items.fault
    (stops_held listing (closed_only_adds c.args.limit) took.0.0
    (c.in_err-list_run-in-Ok-Some.ensures.holds c.args.limit listing.halves listing.stands before)))

pub returns-in-Ok-None : goal.returns-in-Ok-None
returns-in-Ok-None g c =
    let none = none_taken _ _ _ _ c.if-count-gt0.false c.take_buffered_halves-count.ensures.taken in
    let took = rw (c.in-Ok-None.is, c.in-Ok-None.field-0-is, none) at c.in_ok-run.ensures in
    let listing = Listing-wrote c.runs.invariant took.1 took.2 in
    let same = ap (λ (input : InputState). input.halves) none in
    let before : c.halves_left-most.result - c.halves_left.result - c.take_buffered_halves-count.result
    ≡ length listing.halves =
    omega (arith, c.halves_left-most.ensures, c.halves_left.ensures, same, c.if-count-gt0.false, listing.gave.left) in
    let ended = c.write_end.ensures c.args.limit listing.halves listing.stands before in
    found_at_end c.args.words c.args.limit (with_end c.args.words c.args.limit listing ended.0 ended.1) took.0 ended.2

pub returns-in-Err : goal.returns-in-Err
returns-in-Err g c =
    let none = none_taken _ _ _ _ c.if-count-gt0.false c.take_buffered_halves-count.ensures.taken in
    let took = rw (none, c.in-Err.is) at c.in_ok-run.ensures in
    let listing = Listing-wrote c.runs.invariant took.1 took.2 in
    let same = ap (λ (input : InputState). input.halves) none in
    let before : c.halves_left-most.result - c.halves_left.result - c.take_buffered_halves-count.result
    ≡ length listing.halves =
    omega (arith, c.halves_left-most.ensures, c.halves_left.ensures, same, c.if-count-gt0.false, listing.gave.left) in
    let ended = rw c.from.ensures at c.write_end-in-Err.ensures c.args.limit listing.halves listing.stands before in
    stops_at_fault (with_end c.args.words c.args.limit listing ended.0 ended.1) _ c.in-Err.fault took.0 ended.2

pub returns-in_err-run : goal.returns-in_err-run
returns-in_err-run g c =
    let none = none_taken _ _ _ _ c.if-count-gt0.false c.take_buffered_halves-count.ensures.taken in
    let p = err_from_is_err_and c.from_residual-in_err-run.result c.from_residual-in_err-run.ensures.1 in
    let failed = rw none at c.in_err-run.ensures in
    rw (p.1, p.2, failed.0) (fails_found c.args.words c.args.limit _ _ _ _ c.runs.invariant.gave.items.fault
    (stops_before_read c.runs.invariant (closed_only_adds c.args.limit) failed.1 failed.2))
