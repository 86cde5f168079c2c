use Rattle.dcc_regs.proofs.SafetyLemmas.{standing_loco_stands, only_speed_packets_move}
use Rattle.dcc_regs.proofs.laws.standing_loco_stands.Goals as goal

pub returns : goal.returns
returns c = record { stands = standing_loco_stands; movers = only_speed_packets_move }
