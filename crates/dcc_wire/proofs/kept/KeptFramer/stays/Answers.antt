use Rattle.std.proofs.Common.{◌≡◌, ap, ◌∙◌, sym}
use Rattle.dcc_wire.specs.Framing.{Hunting, StandsFor}
use Rattle.dcc_wire.specs.Runs.{still_ones}
use Rattle.dcc_wire.proofs.RunLemmas.{skips_still}
use Rattle.dcc_wire.proofs.kept.KeptFramer.stays.Goals as goal

pub returns-clause-sees : goal.returns-clause-sees
unfolding StandsFor
returns-clause-sees c = λ same durations n stands.
    (skips_still n c.args.us durations
    (sym stands ∙ c.is_still.ensures.0 same ∙ ap Hunting (ap still_ones c.of.ensures))).1
