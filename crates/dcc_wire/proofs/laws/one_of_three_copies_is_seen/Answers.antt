use Rattle.dcc_wire.proofs.RecoveryLemmas.{three_copies, three_copies_after_noise}
use Rattle.dcc_wire.proofs.laws.one_of_three_copies_is_seen.Goals as goal

pub returns : goal.returns
returns c = record { whole = three_copies; after_noise = three_copies_after_noise }
