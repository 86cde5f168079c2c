use Rattle.std.proofs.Common.{◌≡◌, ◌∙◌, None, arith, subst, sym}
use Rattle.std.proofs.lemmas.List.{length-take-le}
use Rattle.std.proofs.lemmas.Result.{err_from_is_err_and}
use Rattle.dcc_capture.proofs.HalfLemmas.{bytes_taken, halves_taken, none_taken}
use Rattle.dcc_listen.proofs.GatherFirstLemmas.{GatheringFirst, GatheringFirst-halves, GatheringFirst-run}
use Rattle.dcc_listen.proofs.GatherFirstLemmas.{GatheringFirst-start, first_stops, gathers_first}
use Rattle.dcc_listen.proofs.first_capture.gather_first.Goals as goal

pub runs-init : goal.runs-init
runs-init g c =
    rw c.new-packets.ensures.items
    (GatheringFirst-start c.args.input.now c.new-framer.result (sym c.fault.ensures.fault ∙ c.in_default.is)
    c.new-framer.ensures)

-- half-bits that the buffer has

pub runs-smaller-then-count-gt0 : goal.runs-smaller-then-count-gt0
runs-smaller-then-count-gt0 g c =
    let taken = c.take_buffered_halves-count.ensures in
    let len = length-take-le c.take_buffered_halves-count.result c.take_buffered_halves-count.new.halves taken.count in
    let some = c.if-count-gt0.true in
    omega (arith, len, some, bytes_taken _ _ _ taken.taken)

pub runs-preserved-then-count-gt0 : goal.runs-preserved-then-count-gt0
runs-preserved-then-count-gt0 g c =
    let so_far = c.runs.invariant in
    let taken = c.take_buffered_halves-count.ensures in
    let len = length-take-le c.take_buffered_halves-count.result c.take_buffered_halves-count.new.halves taken.count in
    let some = c.if-count-gt0.true in
    subst (λ n. GatheringFirst c.args.input.now c.take_buffered_halves-count.new.input n c.hold_halves.new.framer
    c.hold_halves.new.packets.items) (sym (c.from-before.ensures ∙ c.lines.ensures))
    (GatheringFirst-halves _ so_far (omega (arith, len, some)) taken.taken
    (c.in_ok-hold_halves.ensures so_far.halves so_far.holds))

-- another word

pub runs-preserved : goal.runs-preserved
runs-preserved g c =
    let so_far = c.runs.invariant in
    let none = none_taken _ _ _ _ c.if-count-gt0.false c.take_buffered_halves-count.ensures.taken in
    let answer = rw (c.in-Some-2.is, none) at
    (c.in_ok-line.ensures.reads (subst (λ i. i.fault ≡ None) (sym none) so_far.leads.fault)) in
    let shown = c.push_run-shown in
    let held = c.in_ok-hold_seen-in-Some-2.ensures in
    rw held.2
    (GatheringFirst-run c.in-Some-2.line c.in-Some-2.run' shown.result held.0 so_far answer
    (shown.ensures.stands so_far.halves so_far.holds.stands) (shown.ensures.sees so_far.halves so_far.holds.stands)
    held.1 held.3)

pub returns-in_err-hold_halves-clause-fails : goal.returns-in_err-hold_halves-clause-fails
returns-in_err-hold_halves-clause-fails g c =
    let p = err_from_is_err_and c.from_residual.result c.from_residual.ensures.1 in
    let gave = halves_taken _ _ _ c.runs.invariant.leads.fault c.take_buffered_halves-count.ensures.taken in
    rw (p.1, p.2) (sym c.fault.ensures.fault ∙ c.in_default.is, gave.items.fault)

pub returns-in-None-clause-gathers : goal.returns-in-None-clause-gathers
returns-in-None-clause-gathers g c =
    let none = none_taken _ _ _ _ c.if-count-gt0.false c.take_buffered_halves-count.ensures.taken in
    let answer = rw (c.in-None.is, none) at
    (c.in_ok-line.ensures.reads (subst (λ i. i.fault ≡ None) (sym none) c.runs.invariant.leads.fault)) in
    gathers_first c.args.input.now c.runs.input c.next_of_first.new.input c.runs.before c.runs.framer
    c.runs.packets.items (sym c.fault.ensures.fault ∙ c.in_default.is) c.runs.invariant answer

pub returns-in_err-line-clause-fails : goal.returns-in_err-line-clause-fails
returns-in_err-line-clause-fails g c =
    let p = err_from_is_err_and c.from_residual-in_err-line.result c.from_residual-in_err-line.ensures.1 in
    let none = none_taken _ _ _ _ c.if-count-gt0.false c.take_buffered_halves-count.ensures.taken in
    let answer = rw none at
    (c.in_err-line.ensures.reads (subst (λ i. i.fault ≡ None) (sym none) c.runs.invariant.leads.fault)) in
    rw (p.1, p.2)
    (first_stops c.runs.invariant _ _ (sym c.fault.ensures.fault ∙ c.in_default.is) answer)
