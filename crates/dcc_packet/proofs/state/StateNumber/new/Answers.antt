use Rattle.std.proofs.Common.{sym}
use Rattle.dcc_packet.proofs.UpTo.{up_to_ok}
use Rattle.dcc_packet.proofs.state.StateNumber.new.Goals as goal

pub returns-clause-exact : goal.returns-clause-exact
returns-clause-exact c = sym (up_to_ok _ _ _ _ _)
