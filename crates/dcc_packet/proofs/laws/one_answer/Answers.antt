use Rattle.dcc_packet.proofs.RoundTrip as trip
use Rattle.dcc_packet.proofs.laws.one_answer.Goals as goal

pub returns : goal.returns
returns c = trip.one_answer
