-- Theorems about the reading of a CV on a programming track.
use Rattle.std.specs.Prelude.{◌≡◌, ◌<◌, ℕ, Bool, true, false, List, [], ◌∷◌, ◌++◌, Some, length, take, replicate}
use Rattle.std.specs.Prelude.{slice_get}
use Rattle.std.specs.Int.{bit_at}
use Rattle.dcc_packet.specs.Rows.{bit}
use Rattle.dcc_packet.specs.declared.cv.CvNumber.{CvNumber}
use Rattle.dcc_service.specs.declared.packet.ServicePacket.{ServicePacket}
use Rattle.dcc_service.specs.declared.reader.Reading.{Reading}
use Rattle.dcc_service.specs.declared.reader.Reading.TheVariants.{More, Value, NoAnswer}
use Rattle.dcc_service.specs.Bits.{bits_from_lowest, number_from_lowest}
use Rattle.dcc_packet.specs.Cvs.{IsCvs, cv_in}
use Rattle.dcc_service.specs.CvAnswers.{CvAnswers, Asks, question_frame}
use Rattle.dcc_service.specs.Machine.{is_acknowledged, acted_on}
use Rattle.dcc_service.specs.Readings.{ReadingEnds}
use Rattle.dcc_service.specs.Table.{service_spelling}

-- the true answers to the nine questions about a CV with the value `value`: its eight bits, the
-- lowest first, and then true
abbrev pub true_answers : ℕ → List Bool
true_answers value = bits_from_lowest 8 value ++ true ∷ []

-- `answers` is a prefix of `all`
abbrev pub AreFirstOf : List Bool → List Bool → Type 0
AreFirstOf answers all = answers ≡ take (length answers) all

-- let all answers of the reading `so_far` be true answers. Then the acknowledgement of the next
-- question by a decoder is the next true answer.
abbrev pub DecodersTellTheTruth : Type 0
DecodersTellTheTruth = (so_far : CvAnswers) (question : ServicePacket) (cvs : List ℕ) → IsCvs cvs → Asks so_far question
    → AreFirstOf so_far.answers (true_answers (cv_in cvs so_far.cv.number))
    → AreFirstOf (so_far.answers ++ is_acknowledged question cvs ∷ []) (true_answers (cv_in cvs so_far.cv.number))

-- a question of a reading changes no CV
abbrev pub ReadingLeavesTheCvs : Type 0
ReadingLeavesTheCvs =
    (so_far : CvAnswers) (question : ServicePacket) (cvs : List ℕ) → Asks so_far question → acted_on question cvs ≡ cvs

-- if the nine answers of a reading are the true answers for `value`, the reading ends with `value`
abbrev pub TrueAnswersGiveValue : Type 0
TrueAnswersGiveValue =
    (cv : CvNumber) (value : ℕ) (reading : Reading) → value < 256 → ReadingEnds cv (true_answers value) reading
    → reading ≡ Value value

-- if all nine answers of a reading are false, the reading ends without a value
abbrev pub AllNoGivesNoValue : Type 0
AllNoGivesNoValue = (cv : CvNumber) (reading : Reading) → ReadingEnds cv (replicate 9 false) reading
    → reading ≡ NoAnswer

-- bit `k` of the number whose bits are `bits` is the bit at place `k` of `bits`
abbrev pub NumbersHaveTheirBits : Type 0
NumbersHaveTheirBits =
    (bits : List Bool) (k : ℕ) (one : Bool) → slice_get bits k ≡ Some one → bit_at (number_from_lowest bits) k ≡ bit one

-- let `question` be the next question of the reading `so_far`. The frame of `question` is
-- `question_frame so_far`.
abbrev pub QuestionsHaveTheirFrames : Type 0
QuestionsHaveTheirFrames =
    (so_far : CvAnswers) (question : ServicePacket) → Asks so_far question
    → service_spelling question ≡ question_frame so_far

-- a decoder with the CVs `cvs` gets `question`: `answer` is its acknowledgement, and `after` are
-- its CVs after the question
pub record IsPut (question : ServicePacket) (cvs after : List ℕ) (answer : Bool) : Type 0 where
  pub bytes : IsCvs cvs
  pub is : answer ≡ is_acknowledged question cvs
  pub acted : after ≡ acted_on question cvs

-- a reading of `cv` is under way. The decoder now has the CVs `now`, which are the CVs `cvs` of the
-- start. All answers in `so_far` are true answers.
pub record IsReadingUnderWay (cv : CvNumber) (cvs now : List ℕ) (so_far : CvAnswers) : Type 0 where
  pub same_cv : so_far.cv ≡ cv
  pub kept : now ≡ cvs
  pub first : AreFirstOf so_far.answers (true_answers (cv_in cvs cv.number))

-- before the first question, a reading is under way (`IsReadingUnderWay`)
abbrev pub ReadingBegins : Type 0
ReadingBegins = (cv : CvNumber) (cvs : List ℕ) (so_far : CvAnswers) → so_far ≡ record { cv = cv; answers = [] }
    → IsReadingUnderWay cv cvs cvs so_far

-- after each question except the last, a reading is still under way (`IsReadingUnderWay`)
abbrev pub ReadingGoesOn : Type 0
ReadingGoesOn = (cv : CvNumber) (cvs now after : List ℕ) (so_far next : CvAnswers) (question : ServicePacket)
    (answer : Bool)
    → IsReadingUnderWay cv cvs now so_far → Asks so_far question → IsPut question now after answer
    → ReadingEnds so_far.cv (so_far.answers ++ answer ∷ []) (More next) → IsReadingUnderWay cv cvs after next

-- each question of a reading that is under way leaves the CVs of the decoder unchanged
abbrev pub ReadingKeepsTheCvs : Type 0
ReadingKeepsTheCvs = (cv : CvNumber) (cvs now after : List ℕ) (so_far : CvAnswers) (question : ServicePacket)
    (answer : Bool)
    → IsReadingUnderWay cv cvs now so_far → Asks so_far question → IsPut question now after answer → after ≡ cvs

-- if a reading that is under way ends with a value, this is the value of the CV
abbrev pub ReadingTellsTheValue : Type 0
ReadingTellsTheValue = (cv : CvNumber) (cvs now after : List ℕ) (so_far : CvAnswers) (question : ServicePacket)
    (answer : Bool)
    (value : ℕ) → IsReadingUnderWay cv cvs now so_far → Asks so_far question → IsPut question now after answer
    → ReadingEnds so_far.cv (so_far.answers ++ answer ∷ []) (Value value) → value ≡ cv_in cvs cv.number

-- a reading that is under way never ends without a value
abbrev pub ReadingIsAnswered : Type 0
ReadingIsAnswered = (cv : CvNumber) (cvs now after : List ℕ) (so_far : CvAnswers) (question : ServicePacket)
    (answer : Bool)
    → IsReadingUnderWay cv cvs now so_far → Asks so_far question → IsPut question now after answer
    → ReadingEnds so_far.cv (so_far.answers ++ answer ∷ []) NoAnswer → ⊥
