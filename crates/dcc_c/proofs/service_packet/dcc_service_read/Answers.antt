use Rattle.std.proofs.Common.{ap, ◌∙◌}
use Rattle.dcc_c.specs.ServicePackets.{service_packet_of}
use Rattle.dcc_c.proofs.ServicePacketLemmas.{packet_back}
use Rattle.dcc_c.proofs.service_packet.dcc_service_read.Goals as goal

pub returns-in-Some-clause-read : goal.returns-in-Some-clause-read
returns-in-Some-clause-read c done = (
  c.in-Some.what,
  c.in-Some.ensures.spelled ∙ c.in-Ok.ensures.0,
  ap service_packet_of c.numbers.ensures ∙ packet_back c.in-Some.what,
)
