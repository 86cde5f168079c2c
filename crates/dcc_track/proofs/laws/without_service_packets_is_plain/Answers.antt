use Rattle.dcc_track.proofs.PlainLemmas.{without_service_packets_is_plain}
use Rattle.dcc_track.proofs.laws.without_service_packets_is_plain.Goals as goal

pub returns : goal.returns
returns c = without_service_packets_is_plain
