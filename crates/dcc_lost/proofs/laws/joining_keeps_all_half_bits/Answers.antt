use Rattle.dcc_lost.proofs.JoinedLemmas.{all_kept}
use Rattle.dcc_lost.proofs.laws.joining_keeps_all_half_bits.Goals as goal

pub returns : goal.returns
returns c = all_kept
