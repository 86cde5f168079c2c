use Rattle.std.proofs.Common.{◌∙◌, ap}
use Rattle.dcc_wire.specs.Sending.{sent}
use Rattle.dcc_examples.proofs.sent_and_heard.transmit.Goals as goal

pub returns : goal.returns
returns g c =
    c.sent_packet_is_done.ensures c.args.packet.now c.args.timing _ _ _ _ _ c.frame.ensures.fits
    (c.as_slice.ensures.value ∙ c.in_ok-halves.ensures ∙ ap (λ bytes. sent bytes c.args.timing) c.frame.ensures.spelled)
    c.hear_one.ensures
