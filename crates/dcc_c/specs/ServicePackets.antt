-- The C structure of a service packet. A field that the kind of the packet does not use is 0.
use Rattle.std.specs.Prelude.{ℕ, false, ◌==◌, if◌then◌else◌, Result, Ok, Err}
use Rattle.dcc_packet.specs.declared.cv.BitPlace.{BitPlace}
use Rattle.dcc_packet.specs.declared.cv.CvNumber.{CvNumber}
use Rattle.dcc_packet.specs.declared.fault.PacketFault.{PacketFault}
use Rattle.dcc_packet.specs.declared.fault.PacketFault.TheVariants.{Word}
use Rattle.dcc_packet.specs.Fault.{packet_fault_number}
use Rattle.dcc_packet.specs.LineWords.{◌>>=◌}
use Rattle.dcc_packet.specs.Values.{cv_of, place_of}
use Rattle.dcc_service.specs.declared.packet.ServicePacket.{ServicePacket}
use Rattle.dcc_service.specs.declared.packet.ServicePacket.TheVariants.{Write, Verify, BitWrite, BitVerify}
use Rattle.dcc_c.specs.declared.service_packet.DccServicePacket.{DccServicePacket}

-- the C structure of a service packet. Its kind is 6 for a write of a byte, 7 for a verify of a
-- byte, 8 for a write of a bit and 9 for a verify of a bit.
abbrev pub service_packet_numbers : ServicePacket → DccServicePacket
service_packet_numbers (Write cv value) = record { cv = cv.number; kind = 6; value = value; place = 0; one = false }
service_packet_numbers (Verify cv value) = record { cv = cv.number; kind = 7; value = value; place = 0; one = false }
service_packet_numbers (BitWrite cv bits one) =
    record { cv = cv.number; kind = 8; value = 0; place = bits.place; one = one }
service_packet_numbers (BitVerify cv bits one) =
    record { cv = cv.number; kind = 9; value = 0; place = bits.place; one = one }

-- the bit of a CV with the numbers `cv` and `place`, or the first error: P6 for the CV, P7 for the
-- place
abbrev pub bit_of_cv : ℕ → ℕ → Result (CvNumber × BitPlace) PacketFault
bit_of_cv cv place = do
  number ← cv_of cv
  bits ← place_of place
  Ok (number, bits)

-- the service packet with the fields of the C structure `p`, or the first error: P10 for the kind,
-- P6 for the CV, P7 for the place. The fields that the kind does not use do not matter.
abbrev pub service_packet_of : DccServicePacket → Result ServicePacket PacketFault
service_packet_of p =
    if p.kind == 6 then (cv_of p.cv >>= λ cv. Ok (Write cv p.value))
    else if p.kind == 7 then (cv_of p.cv >>= λ cv. Ok (Verify cv p.value))
    else if p.kind == 8 then (bit_of_cv p.cv p.place >>= λ bit. Ok (BitWrite bit.0 bit.1 p.one))
    else if p.kind == 9 then (bit_of_cv p.cv p.place >>= λ bit. Ok (BitVerify bit.0 bit.1 p.one))
    else Err Word

-- the number of the error of the fields of a service packet. If there is no error, the number is 0.
abbrev pub service_packet_answer : Result ServicePacket PacketFault → ℕ
service_packet_answer (Ok packet) = 0
service_packet_answer (Err fault) = packet_fault_number fault
