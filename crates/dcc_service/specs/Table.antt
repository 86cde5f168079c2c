-- The table of service packets: the bytes of each row (NMRA S-9.2.3, direct mode). The comment of a
-- row is its bit pattern, the highest bit first. A is the CV number less 1, so that it is 0 for
-- CV1.
use Rattle.std.specs.Prelude.{ℕ, ◌+◌, ◌-◌, ◌*◌, ◌/◌, ◌%◌, List, [], ◌∷◌}
use Rattle.dcc_wire.specs.Frames.{with_error_byte}
use Rattle.dcc_packet.specs.Rows.{bit}
use Rattle.dcc_packet.specs.declared.cv.CvNumber.{CvNumber}
use Rattle.dcc_service.specs.declared.packet.ServicePacket.{ServicePacket}
use Rattle.dcc_service.specs.declared.packet.ServicePacket.TheVariants.{Write, Verify, BitWrite, BitVerify}

-- the bytes of an access. The first byte is `kind` with the two high bits of A, the second byte has
-- the eight low bits of A, and the third byte is `last`.
abbrev pub access_bytes : ℕ → CvNumber → ℕ → List ℕ
access_bytes kind cv last = (kind + (cv.number - 1) / 256) ∷ ((cv.number - 1) % 256) ∷ last ∷ []

-- the bytes of the row of the service packet `packet`, without the error byte
abbrev pub service_bytes : ServicePacket → List ℕ
-- write byte: 011111AA AAAAAAAA DDDDDDDD
service_bytes (Write cv value) = access_bytes 0x7C cv value
-- verify byte: 011101AA AAAAAAAA DDDDDDDD
service_bytes (Verify cv value) = access_bytes 0x74 cv value
-- bit manipulation, write: 011110AA AAAAAAAA 1111DBBB, D is the bit, BBB is its place
service_bytes (BitWrite cv bits one) = access_bytes 0x78 cv (0xF0 + 8 * bit one + bits.place)
-- bit manipulation, verify: 011110AA AAAAAAAA 1110DBBB, D is the bit, BBB is its place
service_bytes (BitVerify cv bits one) = access_bytes 0x78 cv (0xE0 + 8 * bit one + bits.place)

-- the bytes of the frame of the service packet `packet`
abbrev pub service_spelling : ServicePacket → List ℕ
service_spelling packet = with_error_byte (service_bytes packet)
