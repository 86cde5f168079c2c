-- Theorems about the frames of a question to a decoder in any state.
use Rattle.std.specs.Prelude.{◌≡◌, ◌≢◌, ℕ, ◌==◌, Bool, true, false, List, replicate}
use Rattle.std.specs.Int.{bit_at}
use Rattle.dcc_packet.specs.Rows.{bit}
use Rattle.dcc_packet.specs.declared.cv.CvNumber.{CvNumber}
use Rattle.dcc_packet.specs.declared.cv.BitPlace.{BitPlace}
use Rattle.dcc_service.specs.declared.packet.ServicePacket.{ServicePacket}
use Rattle.dcc_service.specs.declared.packet.ServicePacket.TheVariants.{Write, Verify, BitWrite, BitVerify}
use Rattle.dcc_packet.specs.Cvs.{IsCvs, cv_in, is_read_only}
use Rattle.dcc_service.specs.Machine.{ServiceState, Step, is_acknowledged}
use Rattle.dcc_service.specs.Question.{Steps, question_bytes, after_question, four_no_then}

-- a decoder in state `before` that gets the eight frames of `question` goes to state `after`, and
-- `answers` are its acknowledgements
pub record IsAsked (question : ServicePacket) (before after : ServiceState) (answers : List Bool) : Type 0 where
  pub cvs : IsCvs before.cvs
  pub steps : Steps before (question_bytes question) after answers

-- a decoder does not acknowledge the first four frames of a question. The decoder acknowledges the
-- last four frames if and only if it acknowledges the service packet of the question.
abbrev pub QuestionsAreAnswered : Type 0
QuestionsAreAnswered =
    (question : ServicePacket) (before after : ServiceState) (answers : List Bool)
    → IsAsked question before after answers
    → (after ≡ after_question before question) × (answers ≡ four_no_then (is_acknowledged question before.cvs))

-- `frame` leads a decoder from each state to at most one state, with at most one answer
abbrev pub OneStep : List ℕ → Type 0
OneStep frame =
    (before after other : ServiceState) (answer reply : Bool) → Step before frame after answer
    → Step before frame other reply
    → (after ≡ other) × (answer ≡ reply)

-- a decoder gets a question that compares the CV `cv` with `value`. The decoder acknowledges the
-- question if and only if `cv` has this value. The question changes no CV.
abbrev pub VerifiesTell : Type 0
VerifiesTell =
    (cv : CvNumber) (value : ℕ) (before after : ServiceState) (answers : List Bool)
    → IsAsked (Verify cv value) before after answers
    → (answers ≡ four_no_then (cv_in before.cvs cv.number == value)) × (after.cvs ≡ before.cvs)

-- a decoder gets a question that compares a bit of the CV `cv` with `one`. The decoder acknowledges
-- the question if and only if the bit has this value. The question changes no CV.
abbrev pub BitVerifiesTell : Type 0
BitVerifiesTell = (cv : CvNumber) (bits : BitPlace) (one : Bool) (before after : ServiceState) (answers : List Bool)
    → IsAsked (BitVerify cv bits one) before after answers
    → (answers ≡ four_no_then (bit_at (cv_in before.cvs cv.number) bits.place == bit one)) × (after.cvs ≡ before.cvs)

-- all CVs except `cv` have the same value in the CVs `before` and `after`
abbrev pub OtherCvsStay : CvNumber → List ℕ → List ℕ → Type 0
OtherCvsStay cv before after =
    (other : CvNumber) → other.number ≢ cv.number → cv_in after other.number ≡ cv_in before other.number

-- all bits except the bit `bits` are equal in the bytes `before` and `after`
abbrev pub OtherBitsStay : BitPlace → ℕ → ℕ → Type 0
OtherBitsStay bits before after =
    (other : BitPlace) → other.place ≢ bits.place → bit_at after other.place ≡ bit_at before other.place

-- let a question write `value` to a CV except CV7 and CV8. Then a decoder acknowledges the
-- question, and the CV has this value after it. All other CVs are unchanged.
abbrev pub WritesAreDone : Type 0
WritesAreDone =
    (cv : CvNumber) (value : ℕ) (before after : ServiceState) (answers : List Bool) → is_read_only cv.number ≡ false
    → IsAsked (Write cv value) before after answers
    → (answers ≡ four_no_then true) × (cv_in after.cvs cv.number ≡ value) × OtherCvsStay cv before.cvs after.cvs

-- let a question write the value `one` to a bit of a CV except CV7 and CV8. Then a decoder
-- acknowledges the question, and the bit has this value after it. All other bits of this CV, and
-- all other CVs, are unchanged.
abbrev pub BitWritesAreDone : Type 0
BitWritesAreDone =
    (cv : CvNumber) (bits : BitPlace) (one : Bool) (before after : ServiceState) (answers : List Bool)
    → is_read_only cv.number ≡ false
    → IsAsked (BitWrite cv bits one) before after answers
    → (answers ≡ four_no_then true) × (bit_at (cv_in after.cvs cv.number) bits.place ≡ bit one)
    × OtherBitsStay bits (cv_in before.cvs cv.number) (cv_in after.cvs cv.number) × OtherCvsStay cv before.cvs after.cvs

-- a decoder acknowledges no frame of `question`, and no CV changes
abbrev pub Refuses : ServicePacket → Type 0
Refuses question = (before after : ServiceState) (answers : List Bool) → IsAsked question before after answers
    → (answers ≡ replicate 8 false) × (after.cvs ≡ before.cvs)

abbrev pub KeptCvsStay : Type 0
KeptCvsStay =
    (cv : CvNumber) → is_read_only cv.number ≡ true
    → ((value : ℕ) → Refuses (Write cv value)) × ((bits : BitPlace) (one : Bool) → Refuses (BitWrite cv bits one))
