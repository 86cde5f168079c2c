use Rattle.std.proofs.Common.{arith}
use Rattle.dcc_examples.proofs.decoder_loop.hear_track.Goals as goal

pub loop-us-preserved-in_default : goal.loop-us-preserved-in_default
loop-us-preserved-in_default g c =
    c.packets_are_told.ensures.no_packet _ _ _ _ _ _ _ _ _ _ _ c.loop-us.invariant (omega arith) c.push.ensures.stands
    c.push.ensures.sees c.in_default.not-Packet
