use Rattle.std.proofs.Common.{None, Ok, Some, ◌≡◌, ◌<◌, ◌++◌, ◌∙◌}
use Rattle.std.proofs.Common.{ap, append-nil, arith, length, length-append, replicate, subst}
use Rattle.std.proofs.Common.{sym, take, take-append-drop}
use Rattle.std.proofs.lemmas.List.{length-replicate, length-take-le}
use Rattle.dcc_io.proofs.ShortLemmas.{some_items}
use Rattle.dcc_capture.specs.Capture.{AnswersRun}
use Rattle.dcc_capture.proofs.HalfLemmas.{bytes_taken, halves_taken}
use Rattle.dcc_listen.proofs.GatherLemmas.{none_read}
use Rattle.dcc_listen.proofs.taking.push_next.Goals as goal

pub returns-then-not-is_empty : goal.returns-then-not-is_empty
returns-then-not-is_empty g c =
    let (given, took, whole) = c.refill.ensures in
    let list = c.as_slice-halves.result.now in
    let at = c.push_many-shown.result.at in
    let some : 0 < length list = some_items list c.is_empty.result c.is_empty.ensures c.if-not-is_empty.true in
    let count = length-take-le at list c.push_many-shown.ensures.within in
    let one = c.push_many-shown.ensures.some some in
    let cut : c.args.pending.now ++ given ≡ take at list ++ c.skip.new.self =
    rw (c.as_slice-halves.ensures, c.skip.ensures) (sym whole ∙ sym (take-append-drop at c.refill.new.self)) in
    record {
      given = given;
      gave = halves_taken _ _ given c.requires took;
      some = take at list;
      cut = cut;
      nonempty = omega (arith, count, one);
      at = at;
      stands = c.push_many-shown.ensures.stands;
      sees = c.push_many-shown.ensures.sees;
      fewer = omega (
        arith,
        count,
        one,
        bytes_taken _ _ given took,
        ap length cut,
        length-append c.args.pending.now given,
        length-append (take at list) c.skip.new.self,
      );
    }

pub returns-in-Some : goal.returns-in-Some
returns-in-Some g c =
    let none = none_read c.refill.ensures c.as_slice-halves.ensures c.is_empty.ensures c.if-not-is_empty.false in
    let reads = rw c.in-Some.is at (c.in_ok-run.ensures.reads (subst (λ i. i.fault ≡ None) (sym none.2) c.requires))
    in
    let answer = subst (λ i. AnswersRun i (Ok (Some c.in-Some.run')) c.read_run.new.input) none.2 reads in
    let run = c.in-Some.run' in
    record {
      given = replicate run.n run.us;
      gave = answer.0;
      some = replicate run.n run.us;
      cut = rw (none.0, none.1) (sym (append-nil (replicate run.n run.us)));
      nonempty = let more = answer.1 in simp length-replicate (omega arith);
      at = c.push_run.result.at;
      stands = c.push_run.ensures.stands;
      sees = c.push_run.ensures.sees;
      fewer = let less = answer.2 in rw (none.0, none.1) (omega arith);
    }
