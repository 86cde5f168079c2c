use Rattle.std.proofs.Common.{◌++◌, ◌∷◌, [], length}
use Rattle.dcc_order.proofs.HearingLemmas.{heard_half}
use Rattle.dcc_order.proofs.single.hear_its_half.Goals as goal

pub returns-clause-since : goal.returns-clause-since
returns-clause-since g c = λ halves stands start registers before.
    let shown = c.take_seen.ensures in
    heard_half halves (halves ++ c.args.us ∷ []) c.push-seen.result (length halves) shown.0
    (c.push-seen.ensures.sees halves stands) shown.1 before shown.2
