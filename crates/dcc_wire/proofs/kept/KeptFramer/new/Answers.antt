use Rattle.std.proofs.Common.{[], refl}
use Rattle.dcc_wire.proofs.HistoryLemmas.{stands_for_nothing}
use Rattle.dcc_wire.proofs.KeptLemmas.{kept_between}
use Rattle.dcc_wire.proofs.kept.KeptFramer.new.Goals as goal

pub invariant_of-result : goal.invariant_of-result
invariant_of-result c = kept_between refl ([], stands_for_nothing)

pub returns-clause-is : goal.returns-clause-is
returns-clause-is c = kept_between refl ([], stands_for_nothing)
