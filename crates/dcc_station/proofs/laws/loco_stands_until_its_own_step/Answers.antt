use Rattle.dcc_station.proofs.Standing.{loco_stands_until_its_own_step}
use Rattle.dcc_station.proofs.laws.loco_stands_until_its_own_step.Goals as goal

pub returns : goal.returns
returns c = loco_stands_until_its_own_step
