use Rattle.std.proofs.Common.{refl}
use Rattle.dcc_wire.proofs.StepLemmas.{none_left}
use Rattle.dcc_wire.proofs.halves.Halves.none.Goals as goal

pub returns : goal.returns
returns c = none_left _ refl refl
