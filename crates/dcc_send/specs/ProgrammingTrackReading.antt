-- The result of `readcv`.
use Rattle.std.specs.Prelude.{◌≡◌, ℕ, ◌∷◌, ◌++◌, Bool, true, false, List, [], Option, None, Some, Result}
use Rattle.std.specs.Prelude.{decimal, codes, replicate}
use Rattle.std.specs.Io.KnownBytes.{Appends}
use Rattle.hex.specs.Hex.{encode_lower}
use Rattle.dcc_packet.specs.declared.cv.CvNumber.{CvNumber}
use Rattle.dcc_service.specs.CvAnswers.{CvAnswers, question_frame}
use Rattle.dcc_service.specs.declared.packet.ServicePacket.TheVariants.{Verify}
use Rattle.dcc_packet.specs.Cvs.{cv_in}
use Rattle.dcc_service.specs.Machine.{ServiceState}
use Rattle.dcc_service.specs.ReadingLaws.{true_answers}
use Rattle.dcc_io.specs.declared.fault.ToolFault.{ToolFault}
use Rattle.dcc_io.specs.Calls.{CallPost}
use Rattle.dcc_io.specs.WriterState.{WriterState}
use Rattle.dcc_io.specs.WrittenBytes.{AppendsFront}

-- the value of `cv` in a decoder with the CVs `cvs`, or `None` on an empty track
abbrev pub value_on : Option (List ℕ) → CvNumber → Option ℕ
value_on None cv = None
value_on (Some cvs) cv = Some (cv_in cvs cv.number)

-- the answers to the nine questions about `cv`. A decoder with the CVs `cvs` answers with the bits
-- of the value, and then with true. On an empty track, the answers are nine times false.
abbrev pub answers_on : Option (List ℕ) → CvNumber → List Bool
answers_on None cv = replicate 9 false
answers_on (Some cvs) cv = true_answers (cv_in cvs cv.number)

abbrev pub answer_text : Bool → List ℕ
answer_text true = codes " yes\n"
answer_text false = codes " no\n"

-- the line of a question: the bytes of `frame` as hexadecimal digits, and `answer`
abbrev pub answered_line : List ℕ → Bool → List ℕ
answered_line frame answer = encode_lower frame ++ answer_text answer

-- the reading `so_far` after one more `answer`
abbrev pub with_answer : CvAnswers → Bool → CvAnswers
with_answer so_far answer = record { cv = so_far.cv; answers = so_far.answers ++ answer ∷ [] }

-- a line for each answer of a list. These answers come after the answers of the reading `so_far`.
-- Each line has a question and its answer. A question depends on the earlier answers.
abbrev pub answered_lines : CvAnswers → List Bool → List ℕ
answered_lines so_far [] = []
answered_lines so_far (answer ∷ answers) =
    answered_line (question_frame so_far) answer ++ answered_lines (with_answer so_far answer) answers

-- the reading of `cv` before its first question
abbrev pub no_answers : CvNumber → CvAnswers
no_answers cv = record { cv = cv; answers = [] }

-- the line with the value of a CV, or the line of a reading that ends without a value
abbrev pub value_line : Option ℕ → List ℕ
value_line None = codes "no answer\n"
value_line (Some value) = codes "value " ++ (decimal value ++ codes "\n")

-- the text of the reading of `cv` on `track`: each question with its answer, and then the value
abbrev pub reading_text : Option (List ℕ) → CvNumber → List ℕ
reading_text track cv = answered_lines (no_answers cv) (answers_on track cv) ++ value_line (value_on track cv)

-- the state of a decoder after the ninth question about `cv`. `before` is the state of the decoder
-- before the first question. The packet of the ninth question, which the decoder has acknowledged,
-- is still pending.
abbrev pub after_reading : ServiceState → CvNumber → ServiceState
after_reading before cv =
    record { in_service = true; pending = Some (Verify cv (cv_in before.cvs cv.number)); cvs = before.cvs }

-- If `readcv` succeeds, its result is the value of `cv` on `track`, and it has written the whole
-- text of the reading. After a failed write, a prefix of the text was written.
abbrev pub ReadsCv : Option (List ℕ) → CvNumber → WriterState → Result (Option ℕ) ToolFault → WriterState → Type 0
ReadsCv track cv before result after =
    CallPost (λ value. (value ≡ value_on track cv) × Appends before.contents after.contents (reading_text track cv))
    (λ fault. ⊥) (AppendsFront before after (reading_text track cv)) ⊥ before result after
