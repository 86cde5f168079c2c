use Rattle.dcc_service.proofs.LawLemmas.{writes_done, bit_writes_done}
use Rattle.dcc_service.proofs.laws.writes_are_done.Goals as goal

pub returns-clause-byte : goal.returns-clause-byte
returns-clause-byte c = writes_done

pub returns-clause-bit : goal.returns-clause-bit
returns-clause-bit c = bit_writes_done
