use Rattle.std.proofs.Common.{◌∙◌, ap, length}
use Rattle.dcc_regs.specs.Heard.{address_of, frame_address}
use Rattle.dcc_c.specs.declared.frame.DccFrame.{DccFrame}
use Rattle.dcc_c.specs.Frames.{bytes_of}
use Rattle.dcc_c.proofs.KeptPacketLemmas.{kept_address}
use Rattle.dcc_c.proofs.kept_packet.KeptPacket.address.Goals as goal

pub returns : goal.returns
returns c =
    let k = c.self.inside in
    c.frame_address.ensures ∙ ap frame_address c.as_slice.ensures
    ∙ kept_address k.says.0 (bytes_of k.frame) k.says.1
    (λ none. c.if-self-eq0.false (ap (λ (f : DccFrame). f.len) c.self.invariant.1 ∙ ap length none))
    ∙ ap address_of c.self.view_is
