-- The forms of instructions to locomotive decoders, which follow the address.
use Rattle.std.specs.Prelude.{◌≡◌, ℕ, true, List, [], ◌∷◌, codes, if◌then◌else◌, Some, None, Ok}
use Rattle.dcc_packet.specs.declared.cv.BitPlace.{BitPlace}
use Rattle.dcc_packet.specs.declared.cv.CvNumber.{CvNumber}
use Rattle.dcc_packet.specs.declared.fields.Bit.{Bit}
use Rattle.dcc_packet.specs.declared.fields.CvAccess.{CvAccess}
use Rattle.dcc_packet.specs.declared.fields.Direction.{Direction}
use Rattle.dcc_packet.specs.declared.fields.Switch.{Switch}
use Rattle.dcc_packet.specs.declared.functions.GroupBits.{GroupBits}
use Rattle.dcc_packet.specs.declared.instruction.What.{What}
use Rattle.dcc_packet.specs.declared.instruction.What.TheVariants.{Reset, Speed28, Speed128, Functions, BinaryState}
use Rattle.dcc_packet.specs.declared.instruction.What.TheVariants.{CvWrite, CvVerify, CvBitWrite, CvBitVerify}
use Rattle.dcc_packet.specs.declared.speed.SpeedBits28.{SpeedBits28}
use Rattle.dcc_packet.specs.declared.speed.SpeedBits128.{SpeedBits128}
use Rattle.dcc_packet.specs.declared.state.StateNumber.{StateNumber}
use Rattle.dcc_packet.specs.Fields.{FieldOf, both}
use Rattle.dcc_packet.specs.Forms.{FormOf, RowOf, row, choice, is_said_by}
use Rattle.dcc_packet.specs.Instruction.{is_cv_access}
use Rattle.dcc_packet.specs.LineFields.{no_fields, direction_field, speed28_field, speed128_field, functions_field}
use Rattle.dcc_packet.specs.LineFields.{state_field}
use Rattle.dcc_packet.specs.LineFields.{switch_field, cv_field, small_field, place_field, bit_field}
use Rattle.dcc_packet.specs.LineWords.{◌>>=◌}
use Rattle.dcc_packet.specs.Spelling.{ValueFits}

-- the form `reset`
abbrev pub reset_form : FormOf What (Unit {0})
reset_form =
    record {
      keyword = codes "reset";
      says = λ x. Reset;
      said = elim [ Reset ↦ Some tt | what ↦ None ];
    }

-- the form `speed28 f|r BITS`
abbrev pub speed28_form : FormOf What (Direction × SpeedBits28)
speed28_form =
    record {
      keyword = codes "speed28";
      says = λ x. Speed28 x.0.forward x.1;
      said = elim [ Speed28 forward bits ↦ Some (record { forward = forward }, bits) | what ↦ None ];
    }

-- the form `speed128 f|r BITS`
abbrev pub speed128_form : FormOf What (Direction × SpeedBits128)
speed128_form =
    record {
      keyword = codes "speed128";
      says = λ x. Speed128 x.0.forward x.1;
      said = elim [ Speed128 forward bits ↦ Some (record { forward = forward }, bits) | what ↦ None ];
    }

-- the form `functions GROUP BITS`
abbrev pub functions_form : FormOf What GroupBits
functions_form =
    record {
      keyword = codes "functions";
      says = λ x. Functions x;
      said = elim [ Functions functions ↦ Some functions | what ↦ None ];
    }

-- the form `state NUMBER on|off`
abbrev pub state_form : FormOf What (StateNumber × Switch)
state_form =
    record {
      keyword = codes "state";
      says = λ x. BinaryState x.0 x.1.on;
      said = elim [ BinaryState number on ↦ Some (number, record { on = on }) | what ↦ None ];
    }

-- the form `write CV VALUE` after the word `cv`
abbrev pub cv_write_form : FormOf What (CvNumber × ℕ)
cv_write_form =
    record {
      keyword = codes "write";
      says = λ x. CvWrite x.0 x.1;
      said = elim [ CvWrite cv value ↦ Some (cv, value) | what ↦ None ];
    }

-- the form `verify CV VALUE` after the word `cv`
abbrev pub cv_verify_form : FormOf What (CvNumber × ℕ)
cv_verify_form =
    record {
      keyword = codes "verify";
      says = λ x. CvVerify x.0 x.1;
      said = elim [ CvVerify cv value ↦ Some (cv, value) | what ↦ None ];
    }

-- the form `bitwrite CV PLACE 0|1` after the word `cv`
abbrev pub cv_bit_write_form : FormOf What (CvNumber × (BitPlace × Bit))
cv_bit_write_form =
    record {
      keyword = codes "bitwrite";
      says = λ x. CvBitWrite x.0 x.1.0 x.1.1.one;
      said = elim [ CvBitWrite cv place one ↦ Some (cv, (place, record { one = one })) | what ↦ None ];
    }

-- the form `bitverify CV PLACE 0|1` after the word `cv`
abbrev pub cv_bit_verify_form : FormOf What (CvNumber × (BitPlace × Bit))
cv_bit_verify_form =
    record {
      keyword = codes "bitverify";
      says = λ x. CvBitVerify x.0 x.1.0 x.1.1.one;
      said = elim [ CvBitVerify cv place one ↦ Some (cv, (place, record { one = one })) | what ↦ None ];
    }

-- the table of the four forms of CV access, which follow the word `cv`
abbrev pub cv_access_forms : List (RowOf What)
cv_access_forms =
    row (both cv_field small_field) cv_write_form
    ∷ row (both cv_field small_field) cv_verify_form
    ∷ row (both cv_field (both place_field bit_field)) cv_bit_write_form
    ∷ row (both cv_field (both place_field bit_field)) cv_bit_verify_form
    ∷ []

abbrev pub CvAccessFits : What → Type 0
CvAccessFits what = (is_said_by cv_access_forms what ≡ true) × ValueFits what

abbrev pub cv_access_field : FieldOf CvAccess
cv_access_field = record {
  Fits = λ access. CvAccessFits access.what;
  read = λ words. do
    x ← (choice CvAccessFits cv_access_forms).read words
    Ok (record { what = x.0 }, x.1);
  written = λ access. (choice CvAccessFits cv_access_forms).written access.what;
}

-- the form `cv ..`. After the word `cv`, it has the four forms of CV access.
abbrev pub cv_access_form : FormOf What CvAccess
cv_access_form =
    record {
      keyword = codes "cv";
      says = λ x. x.what;
      said = λ what. if is_cv_access what then Some (record { what = what }) else None;
    }

-- the table of the forms of all instructions to locomotive decoders
abbrev pub instruction_forms : List (RowOf What)
instruction_forms =
    row no_fields reset_form
    ∷ row (both direction_field speed28_field) speed28_form
    ∷ row (both direction_field speed128_field) speed128_form
    ∷ row functions_field functions_form
    ∷ row (both state_field switch_field) state_form
    ∷ row cv_access_field cv_access_form
    ∷ []

abbrev pub instruction_field : FieldOf What
instruction_field = choice ValueFits instruction_forms
