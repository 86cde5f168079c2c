use Rattle.dcc_service.proofs.LawLemmas.{verifies_tell, bit_verifies_tell}
use Rattle.dcc_service.proofs.laws.verifies_tell_the_truth.Goals as goal

pub returns-clause-byte : goal.returns-clause-byte
returns-clause-byte c = verifies_tell

pub returns-clause-bit : goal.returns-clause-bit
returns-clause-bit c = bit_verifies_tell
