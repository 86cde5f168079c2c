use Rattle.std.proofs.Common.{take}
use Rattle.dcc_order.specs.ToldTracks.{HaveCome}
use Rattle.dcc_examples.proofs.decoder_loop.hear_track.Given as goal

abbrev pub invariant-loop-us : goal.invariant-loop-us
invariant-loop-us g l =
    HaveCome g.N.Notify.told (take l.us-index l.durations) l.framer (g.D.Decoder.who l.fn.loco)
    (g.D.Decoder.registers l.fn.loco) (g.D.Decoder.who l.loco) (g.D.Decoder.registers l.loco) l.fn.listener l.listener
