use Rattle.std.proofs.Common.{◌∙◌, ap, length}
use Rattle.dcc_c.specs.declared.frame.DccFrame.{DccFrame}
use Rattle.dcc_c.specs.Frames.{bytes_of}
use Rattle.dcc_c.proofs.KeptPacketLemmas.{spelled_is_kept}
use Rattle.dcc_c.proofs.kept_packet.KeptPacket.packet.Goals as goal

pub returns : goal.returns
returns c =
    let k = c.self.inside in
    spelled_is_kept k.says.0 c.read.result (bytes_of k.frame) k.says.1
    (c.read.ensures.spelled ∙ c.in-Ok.ensures.valid.1 ∙ c.as_slice.ensures)
    (λ none. c.if-self-eq0.false (ap (λ (f : DccFrame). f.len) c.self.invariant.1 ∙ ap length none))
    ∙ c.self.view_is
