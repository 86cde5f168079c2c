-- The lines of instructions are read back: the facts of each form, what it says of a value, and which form says it.
use Rattle.std.proofs.Common.{refl, rules}
use Rattle.dcc_packet.specs.declared.instruction.What.{What}
use Rattle.dcc_packet.specs.declared.instruction.What.TheVariants.{Reset, Speed28, Speed128, Functions, BinaryState}
use Rattle.dcc_packet.specs.declared.instruction.What.TheVariants.{CvWrite, CvVerify, CvBitWrite, CvBitVerify}
use Rattle.dcc_packet.specs.Fields.{IsReadBack, both}
use Rattle.dcc_packet.specs.Forms.{AreBack, SaidBy}
use Rattle.dcc_packet.specs.InstructionForms.{cv_access_field, instruction_field}
use Rattle.dcc_packet.specs.InstructionForms.{cv_access_forms, instruction_forms, CvAccessFits}
use Rattle.dcc_packet.specs.InstructionForms.{reset_form, speed28_form, speed128_form, functions_form, state_form}
use Rattle.dcc_packet.specs.InstructionForms.{cv_access_form, cv_write_form, cv_verify_form, cv_bit_write_form}
use Rattle.dcc_packet.specs.InstructionForms.{cv_bit_verify_form}
use Rattle.dcc_packet.specs.LineFields.{no_fields, direction_field, speed28_field, speed128_field, functions_field}
use Rattle.dcc_packet.specs.LineFields.{state_field}
use Rattle.dcc_packet.specs.LineFields.{switch_field, cv_field, small_field, place_field, bit_field}
use Rattle.dcc_packet.specs.Spelling.{ValueFits}
use Rattle.dcc_packet.proofs.FieldsBack.{both_back}
use Rattle.dcc_packet.proofs.FormsBack.{choice_back, row_back}
use Rattle.dcc_packet.proofs.LineFieldsBack.{nothing_is_back, direction_is_back, speed28_is_back, speed128_is_back}
use Rattle.dcc_packet.proofs.LineFieldsBack.{functions_are_back, state_is_back, switch_is_back, cv_is_back}
use Rattle.dcc_packet.proofs.LineFieldsBack.{small_is_back}
use Rattle.dcc_packet.proofs.LineFieldsBack.{place_is_back, bit_is_back}

byte_back : IsReadBack (both cv_field small_field)
byte_back = both_back cv_field small_field cv_is_back small_is_back

bit_back : IsReadBack (both cv_field (both place_field bit_field))
bit_back = both_back cv_field (both place_field bit_field) cv_is_back
    (both_back place_field bit_field place_is_back bit_is_back)

cv_accesses_are_back : AreBack cv_access_forms
cv_accesses_are_back = (
  row_back (both cv_field small_field) cv_write_form byte_back
      (record { token = refl; back = elim [ CvWrite cv value ↦ λ x e. cc | what ↦ λ x e. absurd cc ] }),
  (
    row_back (both cv_field small_field) cv_verify_form byte_back
        (record { token = refl; back = elim [ CvVerify cv value ↦ λ x e. cc | what ↦ λ x e. absurd cc ] }),
    (
      row_back (both cv_field (both place_field bit_field)) cv_bit_write_form bit_back
          (record { token = refl; back = elim [ CvBitWrite cv place one ↦ λ x e. cc | what ↦ λ x e. absurd cc ] }),
      (
        row_back (both cv_field (both place_field bit_field)) cv_bit_verify_form bit_back
            (record { token = refl; back = elim [ CvBitVerify cv place one ↦ λ x e. cc | what ↦ λ x e. absurd cc ] }),
        tt,
      ),
    ),
  ),
)

cv_access_said_by : (what : What) → CvAccessFits what → SaidBy cv_access_forms what
cv_access_said_by (CvWrite cv value) h = (tt, h.1)
cv_access_said_by (CvVerify cv value) h = (tt, h.1)
cv_access_said_by (CvBitWrite cv place one) h = (tt, (tt, tt))
cv_access_said_by (CvBitVerify cv place one) h = (tt, (tt, tt))
cv_access_said_by what h = absurd cc

instruction_said_by : (what : What) → ValueFits what → SaidBy instruction_forms what
instruction_said_by (CvWrite cv value) h = (refl, h)
instruction_said_by (CvVerify cv value) h = (refl, h)
instruction_said_by (CvBitWrite cv place one) h = (refl, tt)
instruction_said_by (CvBitVerify cv place one) h = (refl, tt)
instruction_said_by what h = search rules

pub cv_access_is_back : IsReadBack cv_access_field
cv_access_is_back =
    let back = choice_back CvAccessFits cv_access_forms cv_accesses_are_back refl cv_access_said_by in
    record {
      back = λ access rest fits. rw (back.back access.what rest fits) refl;
      tokens = λ access fits. back.tokens access.what fits;
    }

instructions_are_back : AreBack instruction_forms
instructions_are_back = (
  row_back no_fields reset_form nothing_is_back
      (record { token = refl; back = elim [ Reset ↦ λ x e. cc | what ↦ λ x e. absurd cc ] }),
  (
    row_back (both direction_field speed28_field) speed28_form
        (both_back direction_field speed28_field direction_is_back speed28_is_back)
        (record { token = refl; back = elim [ Speed28 forward bits ↦ λ x e. cc | what ↦ λ x e. absurd cc ] }),
    (
      row_back (both direction_field speed128_field) speed128_form
          (both_back direction_field speed128_field direction_is_back speed128_is_back)
          (record { token = refl; back = elim [ Speed128 forward bits ↦ λ x e. cc | what ↦ λ x e. absurd cc ] }),
      (
        row_back functions_field functions_form functions_are_back
            (record { token = refl; back = elim [ Functions functions ↦ λ x e. cc | what ↦ λ x e. absurd cc ] }),
        (
          row_back (both state_field switch_field) state_form
              (both_back state_field switch_field state_is_back switch_is_back)
              (record { token = refl; back = elim [ BinaryState number on ↦ λ x e. cc | what ↦ λ x e. absurd cc ] }),
          (
            row_back cv_access_field cv_access_form cv_access_is_back
                (record {
                  token = refl;
                  back = elim [
                    | CvWrite cv value ↦ λ x e. cc
                    | CvVerify cv value ↦ λ x e. cc
                    | CvBitWrite cv place one ↦ λ x e. cc
                    | CvBitVerify cv place one ↦ λ x e. cc
                    | what ↦ λ x e. absurd cc
                  ];
                }),
            tt,
          ),
        ),
      ),
    ),
  ),
)

pub instruction_is_back : IsReadBack instruction_field
instruction_is_back = choice_back ValueFits instruction_forms instructions_are_back refl instruction_said_by
