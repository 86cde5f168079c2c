-- A reading that is under way.
use Rattle.std.proofs.Common.{◌≡◌, ℕ, ◌-◌, Bool, true, false, List, [], ◌∷◌, ◌++◌, length, take, refl, sym, ap}
use Rattle.std.proofs.Common.{◌∙◌, subst, arith, length-append}
use Rattle.std.proofs.lemmas.List.{take_all}
use Rattle.dcc_packet.specs.Cvs.{IsCvs, cv_in}
use Rattle.dcc_packet.specs.declared.cv.CvNumber.{CvNumber}
use Rattle.dcc_service.specs.declared.packet.ServicePacket.{ServicePacket}
use Rattle.dcc_service.specs.declared.reader.Reading.{Reading}
use Rattle.dcc_service.specs.declared.reader.Reading.TheVariants.{Value, NoAnswer}
use Rattle.dcc_service.specs.Bits.{bits_from_lowest}
use Rattle.dcc_service.specs.CvAnswers.{CvAnswers, Asks}
use Rattle.dcc_service.specs.Readings.{ReadingEnds}
use Rattle.dcc_service.specs.ReadingLaws.{true_answers, AreFirstOf, IsPut, IsReadingUnderWay, ReadingBegins}
use Rattle.dcc_service.specs.ReadingLaws.{ReadingGoesOn}
use Rattle.dcc_service.specs.ReadingLaws.{ReadingKeepsTheCvs, ReadingTellsTheValue, ReadingIsAnswered}
use Rattle.dcc_service.proofs.BitsLemmas.{length-bits_from_lowest}
use Rattle.dcc_service.proofs.ReadingLemmas.{asks_only, next_is_true, truth_is_the_value}

pub reading_begins : ReadingBegins
reading_begins cv cvs so_far is =
    let P : CvAnswers → Type 0 = λ a. IsReadingUnderWay cv cvs cvs a in
    subst P (sym is) (record { same_cv = refl; kept = refl; first = refl })

-- the CVs behind a question are those of the start
pub reading_keeps_the_cvs : ReadingKeepsTheCvs
reading_keeps_the_cvs cv cvs now after so_far question answer s asks put =
    put.acted ∙ asks_only so_far question now asks ∙ s.kept

-- the next answer is true
next_answer : (cv : CvNumber) (cvs now after : List ℕ) (so_far : CvAnswers) (question : ServicePacket) (answer : Bool)
    → IsReadingUnderWay cv cvs now so_far → Asks so_far question → IsPut question now after answer
    → AreFirstOf (so_far.answers ++ answer ∷ []) (true_answers (cv_in cvs cv.number))
next_answer cv cvs now after so_far question answer s asks put =
    let all : true_answers (cv_in now so_far.cv.number) ≡ true_answers (cv_in cvs cv.number) =
    ap (λ (xs : List ℕ). true_answers (cv_in xs so_far.cv.number)) s.kept
    ∙ ap (λ (c : CvNumber). true_answers (cv_in cvs c.number)) s.same_cv in
    let P : List Bool → Type 0 = λ xs. AreFirstOf so_far.answers xs in
    let Q : List Bool → Type 0 = λ xs. AreFirstOf (so_far.answers ++ answer ∷ []) xs in
    let R : Bool → Type 0 = λ b. AreFirstOf (so_far.answers ++ b ∷ []) (true_answers (cv_in now so_far.cv.number)) in
    subst Q all (subst R (sym put.is) (next_is_true so_far question now put.bytes asks (subst P (sym all) s.first)))

pub reading_goes_on : ReadingGoesOn
reading_goes_on cv cvs now after so_far next question answer s asks put comes =
    let P : CvAnswers → Type 0 = λ a. IsReadingUnderWay cv cvs after a in
    subst P (sym comes.1) (record {
      same_cv = s.same_cv;
      kept = reading_keeps_the_cvs cv cvs now after so_far question answer s asks put;
      first = next_answer cv cvs now after so_far question answer s asks put;
    })

nine : (value : ℕ) → length (true_answers value) ≡ 9
nine value = omega (arith, length-append (bits_from_lowest 8 value) (true ∷ []), length-bits_from_lowest 8 value)

-- nine answers of which all are true are all true answers
all_of : (answers : List Bool) (value : ℕ) → length answers ≡ 9 → AreFirstOf answers (true_answers value)
    → answers ≡ true_answers value
all_of answers value many first =
    let count = nine value in
    first ∙ ap (λ (n : ℕ). take n (true_answers value)) many ∙ take_all 9 (true_answers value) (omega arith)

-- what a reading comes to behind its ninth answer is what the true answers come to
comes_true : (cv : CvNumber) (cvs now after : List ℕ) (so_far : CvAnswers) (question : ServicePacket) (answer : Bool)
    (reading : Reading) → IsReadingUnderWay cv cvs now so_far → Asks so_far question → IsPut question now after answer
    → length (so_far.answers ++ answer ∷ []) ≡ 9 → ReadingEnds so_far.cv (so_far.answers ++ answer ∷ []) reading
    → reading ≡ Value (cv_in cvs cv.number)
comes_true cv cvs now after so_far question answer reading s asks put many comes =
    let value : ℕ = cv_in cvs cv.number in
    let all : so_far.answers ++ answer ∷ [] ≡ true_answers value =
    all_of (so_far.answers ++ answer ∷ []) value many (next_answer cv cvs now after so_far question answer s asks put)
    in
    let P : List Bool → Type 0 = λ xs. ReadingEnds so_far.cv xs reading in
    let bytes : IsCvs cvs = subst IsCvs s.kept put.bytes in
    truth_is_the_value so_far.cv value reading (bytes.bytes (cv.number - 1)) (subst P all comes)

pub reading_tells_the_value : ReadingTellsTheValue
reading_tells_the_value cv cvs now after so_far question answer value s asks put comes =
    let many : length (so_far.answers ++ answer ∷ []) ≡ 9 =
    omega (arith, comes.1, ap length comes.2, length-append comes.0 (true ∷ [])) in
    let is : Value value ≡ Value (cv_in cvs cv.number) =
    comes_true cv cvs now after so_far question answer (Value value) s asks put many comes in
    cc

pub reading_is_answered : ReadingIsAnswered
reading_is_answered cv cvs now after so_far question answer s asks put comes =
    let many : length (so_far.answers ++ answer ∷ []) ≡ 9 =
    omega (arith, comes.1, ap length comes.2, length-append comes.0 (false ∷ [])) in
    let is : NoAnswer ≡ Value (cv_in cvs cv.number) =
    comes_true cv cvs now after so_far question answer NoAnswer s asks put many comes in
    absurd (cc)
