use Rattle.dcc_regs.proofs.BoardStep.{packet_taken, possible}
use Rattle.dcc_regs.proofs.laws.boards_take_packets.Goals as goal

pub returns : goal.returns
returns c = record { step = packet_taken; possible = possible }
