use Rattle.dcc_lost.proofs.UnusedBodyLaw.{unused_law}
use Rattle.dcc_lost.proofs.laws.found_bodies_are_unused.Goals as goal

pub returns : goal.returns
returns c = unused_law
