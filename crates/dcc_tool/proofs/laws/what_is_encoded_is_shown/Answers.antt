use Rattle.dcc_tool.proofs.EncodedShown.{encodings_are_captures, encoded_frames_are_seen, encodings_are_shown}
use Rattle.dcc_tool.proofs.EncodedShown.{packet_lines_are_shown}
use Rattle.dcc_tool.proofs.StationShown.{station_packets_are_shown}
use Rattle.dcc_tool.proofs.laws.what_is_encoded_is_shown.Goals as goal

pub returns : goal.returns
returns c = record {
  capture = encodings_are_captures;
  seen = encoded_frames_are_seen;
  shown = encodings_are_shown;
  packet_lines = packet_lines_are_shown;
  station = station_packets_are_shown;
}
