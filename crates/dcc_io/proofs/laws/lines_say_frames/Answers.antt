use Rattle.dcc_io.proofs.FramesSaid.{packet_lines_say_frames, station_lines_say_frames}
use Rattle.dcc_io.proofs.laws.lines_say_frames.Goals as goal

pub returns : goal.returns
returns c = record { packets = packet_lines_say_frames; commands = station_lines_say_frames }
