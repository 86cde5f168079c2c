use Rattle.dcc_plain.proofs.StandardLaws.{one_standard}
use Rattle.dcc_plain.proofs.laws.bytes_have_one_standard_packet.Goals as goal

pub returns : goal.returns
returns c = one_standard
