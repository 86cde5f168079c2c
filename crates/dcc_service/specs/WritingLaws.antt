-- Theorems about the writing of a CV on a programming track.
use Rattle.std.specs.Prelude.{◌≡◌, ◌≢◌, ◌↔◌, ℕ, if◌then◌else◌, Bool, true, false, List}
use Rattle.dcc_packet.specs.Cvs.{cv_in, is_read_only, written}
use Rattle.dcc_packet.specs.declared.cv.CvNumber.{CvNumber}
use Rattle.dcc_service.specs.declared.packet.ServicePacket.{ServicePacket}
use Rattle.dcc_service.specs.declared.writer.CvWriter.{CvWriter}
use Rattle.dcc_service.specs.declared.writer.Writing.{Writing}
use Rattle.dcc_service.specs.declared.writer.Writing.TheVariants.{More, Done, Failed}
use Rattle.dcc_service.specs.CvWritings.{writing_question, writing_after}
use Rattle.dcc_service.specs.QuestionLaws.{OtherCvsStay}
use Rattle.dcc_service.specs.ReadingLaws.{IsPut}

-- A decoder gets both questions of a writing of `value` to `cv`, and its acknowledgements are the
-- answers. The decoder has the CVs `cvs` before the first question, and the CVs `after` after the
-- second question. The writing ends with `ending`.
pub record IsWriting (cv : CvNumber) (value : ℕ) (cvs after : List ℕ) (ending : Writing) : Type 0 where
  pub start : CvWriter
  pub next : CvWriter
  pub between : List ℕ
  pub first : Bool
  pub second : Bool
  pub begins : start ≡ record { cv = cv; value = value; is_verifying = false }
  pub is_written : IsPut (writing_question start) cvs between first
  pub goes_on : writing_after start first ≡ More next
  pub is_verified : IsPut (writing_question next) between after second
  pub ends : writing_after next second ≡ ending

-- if a writing ends with `Done`, the CV has the written value
abbrev pub DoneIsTrue : Type 0
DoneIsTrue = (cv : CvNumber) (value : ℕ) (cvs after : List ℕ) (ending : Writing)
    → IsWriting cv value cvs after ending → ending ≡ Done → cv_in after cv.number ≡ value

-- each writing to a CV except CV7 and CV8 ends with `Done`
abbrev pub WritingsAreDone : Type 0
WritingsAreDone = (cv : CvNumber) (value : ℕ) (cvs after : List ℕ) (ending : Writing) → is_read_only cv.number ≡ false
    → IsWriting cv value cvs after ending → ending ≡ Done

-- a writing to CV7 or CV8 ends with `Done` if and only if the CV had the value before. No CV
-- changes.
abbrev pub KeptCvsAreCompared : Type 0
KeptCvsAreCompared =
    (cv : CvNumber) (value : ℕ) (cvs after : List ℕ) (ending : Writing) → is_read_only cv.number ≡ true
    → IsWriting cv value cvs after ending → ((ending ≡ Done) ↔ (cv_in cvs cv.number ≡ value)) × (after ≡ cvs)

-- a writing to a CV changes no other CV
abbrev pub WritingLeavesOthers : Type 0
WritingLeavesOthers = (cv : CvNumber) (value : ℕ) (cvs after : List ℕ) (ending : Writing)
    → IsWriting cv value cvs after ending → OtherCvsStay cv cvs after

-- A writing of `value` to `cv` is under way. The decoder had the CVs `cvs` before the first
-- question, and now has the CVs `now`. After the first question these are the CVs with the written
-- value.
pub record IsWritingUnderWay (cv : CvNumber) (value : ℕ) (cvs now : List ℕ) (so_far : CvWriter) : Type 0 where
  pub same_cv : so_far.cv ≡ cv
  pub same_value : so_far.value ≡ value
  pub cvs_are : now ≡ (if so_far.is_verifying then written cvs cv value else cvs)

-- before the first question, a writing is under way (`IsWritingUnderWay`)
abbrev pub WritingBegins : Type 0
WritingBegins = (cv : CvNumber) (value : ℕ) (cvs : List ℕ) (so_far : CvWriter)
    → so_far ≡ record { cv = cv; value = value; is_verifying = false } → IsWritingUnderWay cv value cvs cvs so_far

-- after the first question, a writing is still under way (`IsWritingUnderWay`)
abbrev pub WritingGoesOn : Type 0
WritingGoesOn = (cv : CvNumber) (value : ℕ) (cvs now after : List ℕ) (so_far next : CvWriter) (question : ServicePacket)
    (answer : Bool)
    → IsWritingUnderWay cv value cvs now so_far → question ≡ writing_question so_far → IsPut question now after answer
    → More next ≡ writing_after so_far answer → IsWritingUnderWay cv value cvs after next

-- if a writing that is under way ends with `Done`, the CV has the written value. All other CVs have
-- their values of the start.
abbrev pub DoneIsWritten : Type 0
DoneIsWritten = (cv : CvNumber) (value : ℕ) (cvs now after : List ℕ) (so_far : CvWriter) (question : ServicePacket)
    (answer : Bool)
    → IsWritingUnderWay cv value cvs now so_far → question ≡ writing_question so_far → IsPut question now after answer
    → Done ≡ writing_after so_far answer → (cv_in after cv.number ≡ value) × OtherCvsStay cv cvs after

-- if a writing that is under way ends with `Failed`, the CV is CV7 or CV8 and had another value
-- before the writing. No CV changes.
abbrev pub FailedIsKept : Type 0
FailedIsKept = (cv : CvNumber) (value : ℕ) (cvs now after : List ℕ) (so_far : CvWriter) (question : ServicePacket)
    (answer : Bool)
    → IsWritingUnderWay cv value cvs now so_far → question ≡ writing_question so_far → IsPut question now after answer
    → Failed ≡ writing_after so_far answer
    → (is_read_only cv.number ≡ true) × (cv_in cvs cv.number ≢ value) × (after ≡ cvs)
