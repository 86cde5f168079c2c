use Rattle.std.proofs.Common.{length, append-nil}
use Rattle.dcc_wire.specs.Framing.{seen, report_at, StandsFor}
use Rattle.dcc_wire.proofs.FramingLemmas.{seen-push, report_shows}
use Rattle.dcc_wire.proofs.kept.KeptFramer.pass.Goals as goal

pub returns-clause-sees : goal.returns-clause-sees
unfolding StandsFor report_at
returns-clause-sees c = λ passed durations stands.
    let quiet = (c.pass_half.ensures.grows passed).answer in
    rw (seen-push durations c.args.us, ← stands, ← c.of.ensures, quiet) (append-nil (seen durations))

pub returns-clause-shows : goal.returns-clause-shows
unfolding StandsFor
returns-clause-shows c = λ left durations stands.
    let something = c.pass_half.ensures.shows left in
    rw (seen-push durations c.args.us, ← stands, ← c.of.ensures)
    (report_shows (seen durations) (length durations) _ something)
