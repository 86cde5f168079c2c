use Rattle.std.proofs.Common.{◌∙◌, sym, refl, ap}
use Rattle.dcc_packet.specs.declared.packet.Packet.TheVariants.{Other}
use Rattle.dcc_c.specs.Frames.{frame_numbers}
use Rattle.dcc_c.proofs.packet_fields.keep_other.Goals as goal

pub returns-clause-found : goal.returns-clause-found
returns-clause-found c = (λ none. c.if-not-is_other.ensures.0 refl, λ is. refl)

pub returns-clause-packet : goal.returns-clause-packet
returns-clause-packet c none =
    let is = c.if-not-is_other.ensures.0 refl in
    (Other is.1.0, c.of-whole.ensures ∙ ap frame_numbers (c.as_slice.ensures ∙ sym is.1.1), refl)
