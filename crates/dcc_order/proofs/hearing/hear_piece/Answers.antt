use Rattle.std.proofs.Common.{◌+◌, ◌-◌, ◌++◌, length, take}
use Rattle.std.proofs.lemmas.List.{take_all}
use Rattle.dcc_wire.proofs.ListLemmas.{take_both}
use Rattle.dcc_wire.proofs.PassedBits.{rest_inside}
use Rattle.dcc_order.proofs.FleetLemmas.{hear_more}
use Rattle.dcc_order.proofs.hearing.hear_piece.Goals as goal

pub pieces-preserved : goal.pieces-preserved
pieces-preserved g c =
    let ds = c.args.durations.now in
    let at = c.pieces.at in
    let k = c.push_many-shown.result.at in
    let pushed = c.push_many-shown.ensures in
    let before = c.pieces.invariant in record {
      stands = λ halves s. rw (take_both ds at k halves)
          (pushed.stands (halves ++ take at ds) (before.stands halves s));
      since = λ halves s starts since. rw (take_both ds at k halves)
          (hear_more _ _ (λ halves. length halves + k - 1) pushed.sees c.hear_seen.ensures (halves ++ take at ds)
          (before.stands halves s) starts (before.since halves s starts since));
      inside = rest_inside ds at k before.inside pushed.within;
    }

pub returns-clause-stands : goal.returns-clause-stands
returns-clause-stands g c = λ halves s.
    rw (take_all c.pieces.at c.args.durations.now c.pieces-test.false) at (c.pieces.invariant.stands halves s)

pub returns-clause-since : goal.returns-clause-since
returns-clause-since g c = λ halves s starts before.
    rw (take_all c.pieces.at c.args.durations.now c.pieces-test.false) at
    (c.pieces.invariant.since halves s starts before)
