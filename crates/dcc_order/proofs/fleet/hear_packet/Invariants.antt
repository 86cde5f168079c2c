use Rattle.std.proofs.Common.{◌∷◌, []}
use Rattle.dcc_regs.specs.Result.{HasHeard}
use Rattle.dcc_order.proofs.TrackLemmas.{SteppedTo}
use Rattle.dcc_order.proofs.fleet.hear_packet.Given as goal

abbrev pub invariant-loop-decoder : goal.invariant-loop-decoder
invariant-loop-decoder g l =
    SteppedTo
    (λ old now.
    HasHeard (l.packet ∷ []) (g.D.Decoder.who old) (g.D.Decoder.registers old) (g.D.Decoder.who now)
    (g.D.Decoder.registers now))
    l.decoder-index l.fn.decoders l.decoders
