use Rattle.std.proofs.Common.{refl}
use Rattle.dcc_station.proofs.WaitingLemmas.{brief, short}
use Rattle.dcc_station.proofs.laws.sent_packets_are_short.Goals as goal

pub returns : goal.returns
returns c = record { half_bits = short; microseconds = brief; nominal = refl }
