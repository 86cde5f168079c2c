use Rattle.std.proofs.Common.{◌≡◌, ◌∙◌, ap}
use Rattle.std.specs.Prelude.{Option, None, Some}
use Rattle.dcc_wire.specs.FrameOf.{frame_of}
use Rattle.dcc_service.specs.declared.packet.ServicePacket.{ServicePacket}
use Rattle.dcc_service.specs.Table.{service_spelling}
use Rattle.dcc_c.specs.Frames.{bytes_of}
use Rattle.dcc_c.specs.KeptPacketLaw.{bytes_back}
use Rattle.dcc_c.specs.Services.{pending_bytes}
use Rattle.dcc_c.proofs.ServicePacketLemmas.{service_packet_is_frame}
use Rattle.dcc_c.proofs.service.pending_of.Goals as goal

pub returns-in-Err-clause-found : goal.returns-in-Err-clause-found
returns-in-Err-clause-found c = go where
  go : (packet : Option ServicePacket) → c.args.pending.now ≡ pending_bytes packet → None ≡ Some packet
  go None e = absurd (let none = c.is_none.ensures.1 e in cc)
  go (Some packet) e =
      let bytes = c.as_slice.ensures ∙ ap bytes_of e ∙ bytes_back (service_spelling packet) in
      let ok = c.of.ensures.exact ∙ ap frame_of bytes ∙ service_packet_is_frame packet in
      absurd (let err = c.in-Err.is in cc)
