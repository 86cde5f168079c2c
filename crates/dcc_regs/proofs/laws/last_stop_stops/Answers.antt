use Rattle.dcc_regs.proofs.SafetyLemmas.{last_stop_stops}
use Rattle.dcc_regs.proofs.laws.last_stop_stops.Goals as goal

pub returns : goal.returns
returns c = last_stop_stops
