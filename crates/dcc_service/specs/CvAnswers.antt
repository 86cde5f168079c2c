-- The questions that read a CV (NMRA S-9.2.3).
use Rattle.std.specs.Prelude.{◌≡◌, ℕ, ◌+◌, ◌==◌, if◌then◌else◌, Bool, true, List, length}
use Rattle.dcc_wire.specs.Frames.{with_error_byte}
use Rattle.dcc_packet.specs.declared.cv.CvNumber.{CvNumber}
use Rattle.dcc_service.specs.declared.packet.ServicePacket.{ServicePacket}
use Rattle.dcc_service.specs.declared.packet.ServicePacket.TheVariants.{Write, Verify, BitWrite, BitVerify}
use Rattle.dcc_service.specs.Bits.{number_from_lowest}
use Rattle.dcc_service.specs.Table.{access_bytes}

-- a reading: the CV that is read, and the answers to the questions so far
pub record CvAnswers : Type 0 where
  pub cv : CvNumber
  pub answers : List Bool

-- a service packet is the next question of the reading `so_far`. After k answers, with k below 8,
-- the question compares bit k of the CV with one. After eight answers, the question compares the CV
-- with the value whose bits are these answers.
abbrev pub Asks : CvAnswers → ServicePacket → Type 0
Asks so_far (BitVerify cv bits one) = (cv ≡ so_far.cv) × (bits.place ≡ length so_far.answers) × (one ≡ true)
Asks so_far (Verify cv value) =
    (cv ≡ so_far.cv) × (length so_far.answers ≡ 8) × (value ≡ number_from_lowest so_far.answers)
Asks so_far (Write cv value) = ⊥
Asks so_far (BitWrite cv bits one) = ⊥

-- the frame of the next question that the reading `so_far` asks
abbrev pub question_frame : CvAnswers → List ℕ
question_frame so_far =
    if length so_far.answers == 8
    then with_error_byte (access_bytes 0x74 so_far.cv (number_from_lowest so_far.answers))
    else with_error_byte (access_bytes 0x78 so_far.cv (0xE8 + length so_far.answers))
