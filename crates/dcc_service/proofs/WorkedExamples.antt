-- Worked rows, computed.
use Rattle.std.proofs.Common.{◌≡◌, true, false, [], ◌∷◌, refl, lit≤}
use Rattle.dcc_packet.specs.declared.cv.CvNumber.{CvNumber}
use Rattle.dcc_packet.specs.declared.cv.BitPlace.{BitPlace}
use Rattle.dcc_service.specs.declared.packet.ServicePacket.TheVariants.{Write, Verify, BitWrite, BitVerify}
use Rattle.dcc_service.specs.declared.writer.CvWriter.{CvWriter}
use Rattle.dcc_service.specs.declared.writer.Writing.TheVariants.{More, Done, Failed}
use Rattle.dcc_service.specs.Bits.{bits_from_lowest, number_from_lowest}
use Rattle.dcc_service.specs.CvAnswers.{question_frame}
use Rattle.dcc_service.specs.CvWritings.{writing_question, writing_after}
use Rattle.dcc_packet.specs.Bits.{with_bit}
use Rattle.dcc_service.specs.Machine.{reset_bytes, acted_on, is_acknowledged}
use Rattle.dcc_service.specs.ReadingLaws.{true_answers}
use Rattle.dcc_service.specs.Table.{service_spelling}

abbrev cv1 : CvNumber
cv1 = record { number = 1; in_range = (lit≤ tt, lit≤ tt) }

abbrev cv8 : CvNumber
cv8 = record { number = 8; in_range = (lit≤ tt, lit≤ tt) }

abbrev cv1024 : CvNumber
cv1024 = record { number = 1024; in_range = (lit≤ tt, lit≤ tt) }

abbrev place5 : BitPlace
place5 = record { place = 5; in_range = lit≤ tt }

-- a writing of 10 to CV1, before and after its first answer
abbrev ten_to_cv1 : CvWriter
ten_to_cv1 = record { cv = cv1; value = 10; is_verifying = false }

abbrev ten_compared : CvWriter
ten_compared = record { cv = cv1; value = 10; is_verifying = true }

record Rows : Type 0 where
  the_reset : reset_bytes ≡ 0x00 ∷ 0x00 ∷ 0x00 ∷ []
  write_of_cv1 : service_spelling (Write cv1 10) ≡ 0x7C ∷ 0x00 ∷ 0x0A ∷ 0x76 ∷ []
  write_of_cv8 : service_spelling (Write cv8 8) ≡ 0x7C ∷ 0x07 ∷ 0x08 ∷ 0x73 ∷ []
  verify_of_cv1 : service_spelling (Verify cv1 10) ≡ 0x74 ∷ 0x00 ∷ 0x0A ∷ 0x7E ∷ []
  bit_write_of_cv1024 : service_spelling (BitWrite cv1024 place5 true) ≡ 0x7B ∷ 0xFF ∷ 0xFD ∷ 0x79 ∷ []
  bit_verify_of_cv1024 : service_spelling (BitVerify cv1024 place5 false) ≡ 0x7B ∷ 0xFF ∷ 0xE5 ∷ 0x61 ∷ []
  question_of_bit_0 : question_frame (record { cv = cv1; answers = [] }) ≡ 0x78 ∷ 0x00 ∷ 0xE8 ∷ 0x90 ∷ []
  question_of_bit_3 : question_frame
      (record { cv = cv1; answers = false ∷ true ∷ false ∷ [] }) ≡ 0x78 ∷ 0x00 ∷ 0xEB ∷ 0x93 ∷ []
  question_of_the_byte : question_frame
      (record { cv = cv1; answers = bits_from_lowest 8 10 }) ≡ 0x74 ∷ 0x00 ∷ 0x0A ∷ 0x7E ∷ []
  answers_of_10 : true_answers 10 ≡ false ∷ true ∷ false ∷ true ∷ false ∷ false ∷ false ∷ false ∷ true ∷ []
  write_is_done : acted_on (Write cv1 10) (3 ∷ []) ≡ 10 ∷ []
  write_is_acknowledged : is_acknowledged (Write cv1 10) (3 ∷ []) ≡ true
  cv8_is_not_written : acted_on (Write cv8 3) (0 ∷ 1 ∷ 2 ∷ 3 ∷ 4 ∷ 5 ∷ 6 ∷ 7 ∷ []) ≡ 0 ∷ 1 ∷ 2 ∷ 3 ∷ 4 ∷ 5 ∷ 6 ∷ 7 ∷ []
  cv8_is_not_acknowledged : is_acknowledged (Write cv8 3) (0 ∷ 1 ∷ 2 ∷ 3 ∷ 4 ∷ 5 ∷ 6 ∷ 7 ∷ []) ≡ false
  true_verify : is_acknowledged (Verify cv1 10) (10 ∷ []) ≡ true
  false_verify : is_acknowledged (Verify cv1 10) (11 ∷ []) ≡ false
  bit_is_written : acted_on (BitWrite cv1 place5 true) (11 ∷ []) ≡ 43 ∷ []
  bit_is_cleared : acted_on (BitWrite cv1 place5 false) (43 ∷ []) ≡ 11 ∷ []
  the_write_is_asked : writing_question ten_to_cv1 ≡ Write cv1 10
  the_comparison_is_asked : writing_question ten_compared ≡ Verify cv1 10
  an_acknowledged_write_is_compared : writing_after ten_to_cv1 true ≡ More ten_compared
  a_silent_write_is_compared : writing_after ten_to_cv1 false ≡ More ten_compared
  an_equal_value_is_done : writing_after ten_compared true ≡ Done
  another_value_is_failed : writing_after ten_compared false ≡ Failed

rows : Rows
unfolding bits_from_lowest number_from_lowest with_bit
rows = record {
  the_reset = refl;
  write_of_cv1 = refl;
  write_of_cv8 = refl;
  verify_of_cv1 = refl;
  bit_write_of_cv1024 = refl;
  bit_verify_of_cv1024 = refl;
  question_of_bit_0 = refl;
  question_of_bit_3 = refl;
  question_of_the_byte = refl;
  answers_of_10 = refl;
  write_is_done = refl;
  write_is_acknowledged = refl;
  cv8_is_not_written = refl;
  cv8_is_not_acknowledged = refl;
  true_verify = refl;
  false_verify = refl;
  bit_is_written = refl;
  bit_is_cleared = refl;
  the_write_is_asked = refl;
  the_comparison_is_asked = refl;
  an_acknowledged_write_is_compared = refl;
  a_silent_write_is_compared = refl;
  an_equal_value_is_done = refl;
  another_value_is_failed = refl;
}
