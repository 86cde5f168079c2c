use Rattle.std.proofs.Common.{◌-◌, ◌≡◌, length, arith}
use Rattle.std.proofs.lemmas.List.{length-take-le}
use Rattle.std.proofs.lemmas.Result.{err_from_is_err_and}
use Rattle.dcc_capture.proofs.HalfLemmas.{bytes_taken, none_taken}
use Rattle.dcc_capture.proofs.HoldLemmas.{Listing-held, count_before, next_halves, stops_held}
use Rattle.dcc_capture.proofs.LinesLemmas.{Listing-start, Listing-wrote, counted, counted_halves, stops_before_read}
use Rattle.dcc_capture.proofs.LinesLemmas.{stops_at_fault, stops_at_end}
use Rattle.dcc_listen.proofs.LostCallLemmas.{none_lost, lost_only_adds}
use Rattle.dcc_listen.proofs.lost_call.list.Goals as goal

pub runs-init : goal.runs-init
runs-init g c = rw c.new-held.ensures (Listing-start none_lost c.requires c.new-finder.ensures)

-- half-bits at hand

pub overflow_sub-before : goal.overflow_sub-before
overflow_sub-before g c =
    let gave = next_halves c.runs.invariant c.take_buffered_halves-count.ensures.taken in
    omega (arith, gave.left, c.runs.invariant.gave.left, c.halves_left.ensures, c.halves_left-most.ensures)

pub overflow_sub-before-then-count-gt0 : goal.overflow_sub-before-then-count-gt0
overflow_sub-before-then-count-gt0 g c =
    let taken = c.take_buffered_halves-count.ensures in
    let gave = next_halves c.runs.invariant taken.taken in
    let len = length-take-le c.take_buffered_halves-count.result c.take_buffered_halves-count.new.halves taken.count in
    omega (arith, gave.left, c.runs.invariant.gave.left, c.halves_left.ensures, c.halves_left-most.ensures, len)

pub runs-smaller-then-count-gt0 : goal.runs-smaller-then-count-gt0
runs-smaller-then-count-gt0 g c =
    let taken = c.take_buffered_halves-count.ensures in
    let len = length-take-le c.take_buffered_halves-count.result c.take_buffered_halves-count.new.halves taken.count in
    let some = c.if-count-gt0.true in
    omega (arith, len, some, bytes_taken _ _ _ taken.taken)

pub runs-preserved-then-count-gt0 : goal.runs-preserved-then-count-gt0
runs-preserved-then-count-gt0 g c =
    let listing = c.runs.invariant in
    let taken = c.take_buffered_halves-count.ensures in
    let gave = next_halves listing taken.taken in
    let before = count_before _ _ taken.count
    (counted_halves _ listing gave c.halves_left-most.ensures c.halves_left.ensures) in
    Listing-held listing gave (c.in_ok-list_halves.ensures.follows listing.halves listing.stands)
    (c.in_ok-list_halves.ensures.holds listing.halves listing.stands before)

pub returns-in_err-list_halves : goal.returns-in_err-list_halves
returns-in_err-list_halves g c =
    let p = err_from_is_err_and c.from_residual.result c.from_residual.ensures.1 in
    let listing = c.runs.invariant in
    let taken = c.take_buffered_halves-count.ensures in
    let gave = next_halves listing taken.taken in
    let before = count_before _ _ taken.count
    (counted_halves _ listing gave c.halves_left-most.ensures c.halves_left.ensures) in
    rw (p.1, p.2) (stops_held listing lost_only_adds gave
    (c.in_err-list_halves.ensures.holds listing.halves listing.stands before))

-- another word

pub list_run-requires : goal.list_run-requires
list_run-requires g c =
    let none = none_taken _ _ _ _ c.if-count-gt0.false c.take_buffered_halves-count.ensures.taken in
    let took = rw (c.in-Ok-Some.is, c.in-Ok-Some.field-0-is, none) at c.in_ok-run.ensures in
    let listing = Listing-wrote c.runs.invariant took.1 took.2 in
    let half = counted c.in-Ok-Some.run' listing took.0.0 c.halves_left-most.ensures c.halves_left-in-Ok-Some.ensures in
    omega (arith, half, c.halves_left-most.type_inv)

pub runs-preserved : goal.runs-preserved
runs-preserved g c =
    let none = none_taken _ _ _ _ c.if-count-gt0.false c.take_buffered_halves-count.ensures.taken in
    let took = rw (c.in-Ok-Some.is, c.in-Ok-Some.field-0-is, none) at c.in_ok-run.ensures in
    let listing = Listing-wrote c.runs.invariant took.1 took.2 in
    let half = counted c.in-Ok-Some.run' listing took.0.0 c.halves_left-most.ensures c.halves_left-in-Ok-Some.ensures in
    let ran = c.in_ok-list_run-in-Ok-Some.ensures in
    Listing-held listing took.0.0 (ran.follows listing.halves listing.stands)
    (ran.holds listing.halves listing.stands (omega (arith, half)))

pub returns-in_err-list_run-in-Ok-Some : goal.returns-in_err-list_run-in-Ok-Some
returns-in_err-list_run-in-Ok-Some g c =
    let none = none_taken _ _ _ _ c.if-count-gt0.false c.take_buffered_halves-count.ensures.taken in
    let p = err_from_is_err_and c.from_residual-in_err-list_run-in-Ok-Some.result
    c.from_residual-in_err-list_run-in-Ok-Some.ensures.1 in
    let took = rw (c.in-Ok-Some.is, c.in-Ok-Some.field-0-is, none) at c.in_ok-run.ensures in
    let listing = Listing-wrote c.runs.invariant took.1 took.2 in
    let half = counted c.in-Ok-Some.run' listing took.0.0 c.halves_left-most.ensures c.halves_left-in-Ok-Some.ensures in
    rw (p.1, p.2) (stops_held listing lost_only_adds took.0.0
    (c.in_err-list_run-in-Ok-Some.ensures.holds listing.halves listing.stands (omega (arith, half))))

pub returns-in-Ok-None : goal.returns-in-Ok-None
returns-in-Ok-None g c =
    let none = none_taken _ _ _ _ c.if-count-gt0.false c.take_buffered_halves-count.ensures.taken in
    let took = rw (c.in-Ok-None.is, c.in-Ok-None.field-0-is, none) at c.in_ok-run.ensures in
    stops_at_end (Listing-wrote c.runs.invariant took.1 took.2) lost_only_adds took.0 c.write_rest.ensures

pub returns-in-Err : goal.returns-in-Err
returns-in-Err g c =
    let none = none_taken _ _ _ _ c.if-count-gt0.false c.take_buffered_halves-count.ensures.taken in
    let took = rw (none, c.in-Err.is) at c.in_ok-run.ensures in
    let rest = rw c.from.ensures at c.write_rest-in-Err.ensures in
    stops_at_fault (Listing-wrote c.runs.invariant took.1 took.2) _ c.in-Err.fault took.0 rest

pub returns-in_err-run : goal.returns-in_err-run
returns-in_err-run g c =
    let none = none_taken _ _ _ _ c.if-count-gt0.false c.take_buffered_halves-count.ensures.taken in
    let p = err_from_is_err_and c.from_residual-in_err-run.result
    c.from_residual-in_err-run.ensures.1 in
    let failed = rw none at c.in_err-run.ensures in
    rw (p.1, p.2, failed.0) (stops_before_read c.runs.invariant lost_only_adds failed.1 failed.2)
