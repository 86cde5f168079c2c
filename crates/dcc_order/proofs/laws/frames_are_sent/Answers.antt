use Rattle.dcc_order.proofs.SentAndHeard.{sending_begins, nothing_is_seen, something_is_seen, frame_is_seen}
use Rattle.dcc_order.proofs.SentAndHeard.{frames_are_heard}
use Rattle.dcc_order.proofs.laws.frames_are_sent.Goals as goal

pub returns : goal.returns
returns c = record {
  begins = sending_begins;
  nothing = nothing_is_seen;
  something = something_is_seen;
  seen = frame_is_seen;
  heard = frames_are_heard;
}
