-- The fields of a service packet are read as the packet.
use Rattle.std.proofs.Common.{◌≡◌, ℕ, ◌+◌, ◌*◌, Ok, Result, refl, ap, ◌∙◌}
use Rattle.dcc_wire.specs.FrameOf.{frame_of}
use Rattle.dcc_wire.specs.Frames.{with_error_byte}
use Rattle.dcc_wire.proofs.ErrorByte.{xor_of-with_error_byte}
use Rattle.dcc_packet.specs.declared.cv.BitPlace.{BitPlace}
use Rattle.dcc_packet.specs.declared.cv.CvNumber.{CvNumber}
use Rattle.dcc_packet.specs.declared.fault.PacketFault.{PacketFault}
use Rattle.dcc_packet.specs.declared.fault.PacketFault.TheVariants as faults
use Rattle.dcc_packet.specs.LineWords.{◌>>=◌}
use Rattle.dcc_packet.specs.Rows.{bit}
use Rattle.dcc_packet.specs.Values.{place_of}
use Rattle.dcc_packet.proofs.UpTo.{up_to_ok}
use Rattle.dcc_service.specs.declared.packet.ServicePacket.{ServicePacket}
use Rattle.dcc_service.specs.declared.packet.ServicePacket.TheVariants.{Write, Verify, BitWrite, BitVerify}
use Rattle.dcc_service.specs.Table.{access_bytes, service_spelling}
use Rattle.dcc_c.specs.ServicePackets.{bit_of_cv, service_packet_numbers, service_packet_of}
use Rattle.dcc_c.proofs.ReaderLemmas.{cv_back}

place_back : (bits : BitPlace) → place_of bits.place ≡ Ok bits
place_back bits = up_to_ok 7 bits.place faults.BitPlace (λ h. record { place = bits.place; in_range = h }) bits.in_range

pub bit_back : (cv : CvNumber) (bits : BitPlace) → bit_of_cv cv.number bits.place ≡ Ok (cv, bits)
bit_back cv bits =
    ap (λ (r : Result CvNumber PacketFault). r >>= λ number. place_of bits.place >>= λ place. Ok (number, place))
    (cv_back cv.number cv refl)
    ∙ ap (λ (r : Result BitPlace PacketFault). r >>= λ place. Ok (cv, place)) (place_back bits)

abbrev pub BitResult : Type 0
BitResult = Result (CvNumber × BitPlace) PacketFault

pub packet_back : (what : ServicePacket) → service_packet_of (service_packet_numbers what) ≡ Ok what
packet_back (Write cv value) =
    ap (λ (r : Result CvNumber PacketFault). r >>= λ number. Ok (Write number value)) (cv_back cv.number cv refl)
packet_back (Verify cv value) =
    ap (λ (r : Result CvNumber PacketFault). r >>= λ number. Ok (Verify number value)) (cv_back cv.number cv refl)
packet_back (BitWrite cv bits one) =
    ap (λ (r : BitResult). r >>= λ bit. Ok (BitWrite bit.0 bit.1 one)) (bit_back cv bits)
packet_back (BitVerify cv bits one) =
    ap (λ (r : BitResult). r >>= λ bit. Ok (BitVerify bit.0 bit.1 one)) (bit_back cv bits)

-- the bytes of an access and their error byte are a frame
access_is_frame : (kind : ℕ) (cv : CvNumber) (last : ℕ)
    → frame_of (with_error_byte (access_bytes kind cv last)) ≡ Ok (with_error_byte (access_bytes kind cv last))
access_is_frame kind cv last = rw (xor_of-with_error_byte (access_bytes kind cv last)) refl

pub service_packet_is_frame : (packet : ServicePacket)
    → frame_of (service_spelling packet) ≡ Ok (service_spelling packet)
service_packet_is_frame (Write cv value) = access_is_frame 0x7C cv value
service_packet_is_frame (Verify cv value) = access_is_frame 0x74 cv value
service_packet_is_frame (BitWrite cv bits one) = access_is_frame 0x78 cv (0xF0 + 8 * bit one + bits.place)
service_packet_is_frame (BitVerify cv bits one) = access_is_frame 0x78 cv (0xE0 + 8 * bit one + bits.place)
