use Rattle.dcc_plain.proofs.StandardLaws.{read_back}
use Rattle.dcc_plain.proofs.laws.standard_packets_are_read_back.Goals as goal

pub returns : goal.returns
returns c = read_back
