use Rattle.dcc_regs.proofs.NoteLemmas.{told_again}
use Rattle.dcc_regs.proofs.laws.notes_tell_packets.Goals as goal

pub returns : goal.returns
returns c = told_again
