-- The C structure of a decoder on the programming track.
use Rattle.std.specs.Prelude.{Option, None, Some, []}
use Rattle.dcc_service.specs.declared.packet.ServicePacket.{ServicePacket}
use Rattle.dcc_service.specs.Machine.{ServiceState}
use Rattle.dcc_service.specs.Table.{service_spelling}
use Rattle.dcc_c.specs.declared.frame.DccFrame.{DccFrame}
use Rattle.dcc_c.specs.declared.service.DccService.{DccService}
use Rattle.dcc_c.specs.declared.service.DccSmallService.{DccSmallService}
use Rattle.dcc_c.specs.Frames.{frame_numbers}

-- the C structure of the frame of a pending packet. If no packet is pending, the structure has no
-- bytes.
abbrev pub pending_bytes : Option ServicePacket → DccFrame
pending_bytes None = frame_numbers []
pending_bytes (Some packet) = frame_numbers (service_spelling packet)

-- the C structure of a decoder on the programming track in state `s`. The structure does not have
-- the CVs of the decoder.
abbrev pub small_service_numbers : ServiceState → DccSmallService
small_service_numbers s = record { in_service = s.in_service; pending = pending_bytes s.pending }

-- the C structure of a decoder on the programming track in state `s`
abbrev pub service_numbers : ServiceState → DccService
service_numbers s = record { progress = small_service_numbers s; cvs = s.cvs }
