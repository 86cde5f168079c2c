use Rattle.std.proofs.Common.{◌∙◌, refl, ap}
use Rattle.dcc_packet.specs.Spelling.{spelling}
use Rattle.dcc_c.specs.Frames.{frame_numbers}
use Rattle.dcc_c.proofs.PacketFieldLemmas.{meant, no_fault, one_meaning}
use Rattle.dcc_c.proofs.packet_fields.dcc_frame_of_packet.Goals as goal

pub returns-in-Ok-clause-inverse : goal.returns-in-Ok-clause-inverse
returns-in-Ok-clause-inverse c what e k =
    let same = one_meaning c.in-Ok.what what (c.in-Ok.ensures.exact ∙ meant c.args.packet.now what e k) in (
      refl,
      c.of.ensures
          ∙ ap frame_numbers (c.bytes.ensures.value ∙ c.frame.ensures.spelled ∙ ap spelling same),
    )

pub returns-in-Err-clause-inverse : goal.returns-in-Err-clause-inverse
returns-in-Err-clause-inverse c what e k =
    absurd (no_fault c.in-Err.fault what (c.in-Err.ensures.exact ∙ meant c.args.packet.now what e k))
