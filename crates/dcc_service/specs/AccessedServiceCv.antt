-- The CV that a decoder on the programming track accesses when it gets a frame. The caller of the
-- decoder stores the CVs.
use Rattle.std.specs.Prelude.{◌≡◌, ℕ, true, Option, Some, None, List}
use Rattle.dcc_packet.specs.declared.cv.CvNumber.{CvNumber}
use Rattle.dcc_service.specs.declared.packet.ServicePacket.{ServicePacket}
use Rattle.dcc_service.specs.declared.packet.ServicePacket.TheVariants.{Write, Verify, BitWrite, BitVerify}
use Rattle.dcc_service.specs.Machine.{ServiceState}
use Rattle.dcc_service.specs.Table.{service_spelling}

-- the CV that a service packet writes or compares
abbrev pub service_cv : ServicePacket → CvNumber
service_cv (Write cv value) = cv
service_cv (Verify cv value) = cv
service_cv (BitWrite cv bits one) = cv
service_cv (BitVerify cv bits one) = cv

-- A decoder in state `before` gets `frame` and executes the service packet `packet`. The decoder is
-- in service mode, and `packet` is pending and has the frame `frame`.
pub record Executes (before : ServiceState) (frame : List ℕ) (packet : ServicePacket) : Type 0 where
  pub in_service : before.in_service ≡ true
  pub pending : before.pending ≡ Some packet
  pub spelled : frame ≡ service_spelling packet

-- A decoder in state `before` gets `frame` and accesses the CV `cv`. If the decoder executes a
-- packet, `cv` is the CV of this packet. If the decoder executes no packet, `cv` is `None`.
pub record Accesses (before : ServiceState) (frame : List ℕ) (cv : Option CvNumber) : Type 0 where
  pub executed : (packet : ServicePacket) → Executes before frame packet → cv ≡ Some (service_cv packet)
  pub none : ((packet : ServicePacket) → ¬ (Executes before frame packet)) → cv ≡ None
