use Rattle.std.proofs.Common.{◌++◌, take, arith, append_assoc}
use Rattle.std.proofs.lemmas.List.{take_more, take_all}
use Rattle.dcc_order.proofs.single.hear_its_piece.Goals as goal

pub loop-us-preserved : goal.loop-us-preserved
loop-us-preserved g c =
    let ds = c.args.durations.now in
    let n = c.loop-us.us-index in
    let more = take_more ds n 0 (omega arith) in record {
      stands = λ halves s. rw (more, ← append_assoc)
          (c.hear_its_half.ensures.stands (halves ++ take n ds) (c.loop-us.invariant.stands halves s));
      since = λ halves s start registers before. rw (more, ← append_assoc)
          (c.hear_its_half.ensures.since (halves ++ take n ds) (c.loop-us.invariant.stands halves s) start registers
          (c.loop-us.invariant.since halves s start registers before));
    }

pub returns-clause-since : goal.returns-clause-since
returns-clause-since g c = λ halves s start registers before.
    rw (take_all c.loop-us.us-index c.args.durations.now (omega arith)) at
    (c.loop-us.invariant.since halves s start registers before)
