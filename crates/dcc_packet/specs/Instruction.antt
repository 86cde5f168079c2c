-- Kinds of instructions.
use Rattle.std.specs.Prelude.{Bool, true, false}
use Rattle.dcc_packet.specs.declared.instruction.What.{What}
use Rattle.dcc_packet.specs.declared.instruction.What.TheVariants.{Reset, Speed28, Speed128, Functions, BinaryState}
use Rattle.dcc_packet.specs.declared.instruction.What.TheVariants.{CvWrite, CvVerify, CvBitWrite, CvBitVerify}

-- true for the four instructions of CV access (RCN-214)
abbrev pub is_cv_access : What → Bool
is_cv_access Reset = false
is_cv_access (Speed28 forward bits) = false
is_cv_access (Speed128 forward bits) = false
is_cv_access (Functions bits) = false
is_cv_access (BinaryState number on) = false
is_cv_access (CvWrite cv value) = true
is_cv_access (CvVerify cv value) = true
is_cv_access (CvBitWrite cv place one) = true
is_cv_access (CvBitVerify cv place one) = true
