use Rattle.dcc_packet.proofs.LinesSayFrames.{lines_say_frames}
use Rattle.dcc_packet.proofs.laws.lines_say_frames.Goals as goal

pub returns : goal.returns
returns c = lines_say_frames
