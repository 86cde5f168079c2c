use Rattle.std.proofs.Common.{ap, ◌∙◌}
use Rattle.dcc_wire.specs.Framing.{StandsFor, is_hunting}
use Rattle.dcc_timing.proofs.timings.Timings.is_hunting.Goals as goal

pub returns : goal.returns
unfolding StandsFor
returns c = λ halves are. c.is_hunting.ensures ∙ ap is_hunting are.framer
