use Rattle.std.proofs.Common.{[], ◌∷◌, append-nil, ap, length, subst, arith}
use Rattle.std.proofs.lemmas.Result.{err_from_is_err_and}
use Rattle.dcc_listen.specs.Taking.{Gathering}
use Rattle.dcc_listen.proofs.GatherLemmas.{Gathering-pushed, gathers_all, gather_stops}
use Rattle.dcc_listen.proofs.taking.next_packet.Goals as goal

pub returns-in-Some-packet_in-clause-takes : goal.returns-in-Some-packet_in-clause-takes
returns-in-Some-packet_in-clause-takes g c = λ start packets none so.
    let pushes = rw c.in-Some.is at c.in_ok-seen.ensures in
    Gathering-pushed (c.in-Some-packet_in.packet ∷ []) (c.runs.invariant.gathers start packets none so) pushes
    c.in-Some-packet_in.ensures (omega arith)

pub returns-in-Some-packet_in-clause-fault : goal.returns-in-Some-packet_in-clause-fault
returns-in-Some-packet_in-clause-fault g c =
    let pushes = rw c.in-Some.is at c.in_ok-seen.ensures in pushes.gave.items.fault

pub returns-in-Some-packet_in-clause-bytes : goal.returns-in-Some-packet_in-clause-bytes
returns-in-Some-packet_in-clause-bytes g c =
    let pushes = rw c.in-Some.is at c.in_ok-seen.ensures in
    let less = pushes.fewer in
    let before = c.runs.invariant.bytes in
    omega (arith, less, before)

pub runs-smaller : goal.runs-smaller
runs-smaller g c =
    let pushes = rw c.in-Some.is at c.in_ok-seen.ensures in
    pushes.fewer

pub runs-preserved : goal.runs-preserved
runs-preserved g c =
    let pushes = rw c.in-Some.is at c.in_ok-seen.ensures in
    let less = pushes.fewer in
    let before = c.runs.invariant.bytes in
    record {
      fault = pushes.gave.items.fault;
      bytes = omega (arith, less, before);
      gathers = λ start packets none so.
          subst (Gathering start c.push_next.new.input c.push_next.new.pending c.push_next.new.framer)
          (append-nil packets)
          (Gathering-pushed [] (c.runs.invariant.gathers start packets none so) pushes c.in-None-packet_in.ensures
          (omega arith));
    }

pub returns-in-None-clause-takes : goal.returns-in-None-clause-takes
returns-in-None-clause-takes g c = λ start packets none so.
    let answer = rw c.in-None.is at c.in_ok-seen.ensures in
    let so_far = rw answer.0 at (c.runs.invariant.gathers start packets none so) in
    gathers_all start c.runs.input c.push_next.new.input c.runs.framer packets none so_far answer.2

pub returns-in_err-seen-clause-takes : goal.returns-in_err-seen-clause-takes
returns-in_err-seen-clause-takes g c =
    let p = err_from_is_err_and c.from_residual.result c.from_residual.ensures.1 in
    rw (p.1, p.2)
    (λ start packets none so.
    let so_far = rw c.in_err-seen.ensures.0 at (c.runs.invariant.gathers start packets none so) in
    gather_stops start c.runs.input c.push_next.new.input c.runs.framer packets _ none so_far c.in_err-seen.ensures.1)

pub returns-in-None-clause-bytes : goal.returns-in-None-clause-bytes
returns-in-None-clause-bytes g c =
    let answer = rw c.in-None.is at c.in_ok-seen.ensures in
    let none = ap length answer.1 in
    let read = answer.2.0.items.bytes in
    omega (arith, none, read, c.runs.invariant.bytes)
