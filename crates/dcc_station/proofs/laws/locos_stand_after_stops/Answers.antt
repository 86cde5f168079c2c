use Rattle.std.proofs.Common.{arith}
use Rattle.dcc_station.proofs.Standing.{locos_stand, no_step}
use Rattle.dcc_station.proofs.laws.locos_stand_after_stops.Goals as goal

pub returns : goal.returns
returns c = record { packets = no_step; stand = locos_stand; directions = λ mode. grind arith }
