-- How a reading on the programming track goes on, and what it comes to.
use Rattle.std.proofs.Common.{◌≡◌, ℕ, ◌≤◌, ◌+◌, Bool, true, false, List, [], ◌∷◌, ◌++◌, Option, None, Some, IfSome}
use Rattle.std.proofs.Common.{OnOk, Result, Ok, Err, ◌-◌, ◌+◌, length, take, drop, replicate, refl, sym, ap, ◌∙◌}
use Rattle.std.proofs.Common.{subst, append_assoc, arith}
use Rattle.std.proofs.lemmas.List.{append-nil, take_all, take_at, take-append-drop, take-replicate}
use Rattle.std.proofs.lemmas.List.{replicate-append-replicate, length-append}
use Rattle.std.specs.Io.KnownBytes.{Appends}
use Rattle.std.specs.Option.{option_map, option_map_or}
use Rattle.dcc_packet.specs.declared.cv.CvNumber.{CvNumber}
use Rattle.dcc_service.specs.declared.packet.ServicePacket.{ServicePacket}
use Rattle.dcc_service.specs.declared.packet.ServicePacket.TheVariants.{Write, Verify, BitWrite, BitVerify}
use Rattle.dcc_service.specs.declared.reader.Reading.{Reading}
use Rattle.dcc_service.specs.declared.reader.Reading.TheVariants.{More, Value, NoAnswer}
use Rattle.dcc_service.specs.Bits.{bits_from_lowest, number_from_lowest}
use Rattle.dcc_service.specs.CvAnswers.{CvAnswers, Asks, question_frame}
use Rattle.dcc_packet.specs.Cvs.{cv_in}
use Rattle.dcc_packet.specs.Cvs.{IsCvs}
use Rattle.dcc_service.specs.Machine.{ServiceState, is_acknowledged}
use Rattle.dcc_service.specs.Question.{after_question}
use Rattle.dcc_service.specs.ReadingLaws.{AreFirstOf}
use Rattle.dcc_service.specs.Readings.{ReadingEnds}
use Rattle.dcc_service.proofs.ReadingLemmas.{asks_only, next_is_true, truth_is_the_value, silence_is_no_answer}
use Rattle.dcc_io.specs.declared.fault.ToolFault.{ToolFault}
use Rattle.dcc_io.specs.declared.fault.ToolFault.TheVariants as faults
use Rattle.dcc_io.specs.Failures.{HasRisen}
use Rattle.dcc_send.specs.Inner.ProgrammingTrackAnswers.{TakesAnswer, AnswersQuestion}
use Rattle.dcc_send.specs.ProgrammingTrackReading.{value_on, answers_on, answered_line, with_answer, answered_lines}
use Rattle.dcc_send.specs.ProgrammingTrackReading.{no_answers}
use Rattle.dcc_send.specs.ProgrammingTrackReading.{value_line, reading_text, after_reading, ReadsCv}
use Rattle.dcc_io.specs.WriterState.{WriterState}
use Rattle.dcc_io.specs.WrittenBytes.{AppendsFront}
use Rattle.dcc_io.proofs.WrittenLemmas.{AppendsFront-more}
use Rattle.dcc_io.proofs.WrittenLemmas.{Appends-append, front_behind}

-- the lines of some answers and then of others
lines-append : (so_far : CvAnswers) (xs ys : List Bool)
    → answered_lines so_far (xs ++ ys) ≡ answered_lines so_far xs
    ++ answered_lines (record { cv = so_far.cv; answers = so_far.answers ++ xs }) ys
lines-append so_far [] ys =
    ap (λ (answers : List Bool). answered_lines (record { cv = so_far.cv; answers = answers }) ys)
    (sym (append-nil so_far.answers))
lines-append so_far (x ∷ xs) ys =
    let line : List ℕ = answered_line (question_frame so_far) x in
    let next : CvAnswers = with_answer so_far x in
    ap (λ (lines : List ℕ). line ++ lines) (lines-append next xs ys)
    ∙ sym (append_assoc line (answered_lines next xs) _)
    ∙ ap (λ (answers : List Bool). line ++ answered_lines next xs
    ++ answered_lines (record { cv = so_far.cv; answers = answers }) ys)
    (append_assoc so_far.answers (x ∷ []) xs)

-- the line of one answer more
lines-one : (so_far : CvAnswers) (answer : Bool)
    → answered_lines (no_answers so_far.cv) (so_far.answers ++ answer ∷ []) ≡ answered_lines (no_answers so_far.cv)
    so_far.answers ++ answered_line (question_frame so_far) answer
lines-one so_far answer =
    lines-append (no_answers so_far.cv) so_far.answers (answer ∷ [])
    ∙ ap (λ (line : List ℕ). answered_lines (no_answers so_far.cv) so_far.answers ++ line)
    (append-nil (answered_line (question_frame so_far) answer))

-- the lines of the first answers are the first lines
first_lines : (cv : CvNumber) (answers all : List Bool) → AreFirstOf answers all
    → (rest : List ℕ) × (answered_lines (no_answers cv) all ≡ answered_lines (no_answers cv) answers ++ rest)
first_lines cv answers all first =
    let n : ℕ = length answers in (
      answered_lines (record { cv = cv; answers = take n all }) (drop n all),
      ap (answered_lines (no_answers cv)) (sym (take-append-drop n all))
          ∙ lines-append (no_answers cv) (take n all) (drop n all)
          ∙ ap (λ (xs : List Bool). answered_lines (no_answers cv) xs
          ++ answered_lines (record { cv = cv; answers = take n all }) (drop n all)) (sym first),
    )

-- so far these answers to the questions about a CV came, and their lines were written
pub record IsReading (track : Option (List ℕ)) (cv : CvNumber) (so_far : CvAnswers) (before after : WriterState) : Type
    0 where
  pub same_cv : so_far.cv ≡ cv
  pub first : AreFirstOf so_far.answers (answers_on track cv)
  pub written : Appends before.contents after.contents (answered_lines (no_answers cv) so_far.answers)
  pub failures : after.failures ≡ before.failures

-- the lines so far, and that of one answer more
written_more : (cv : CvNumber) (so_far : CvAnswers) (answer : Bool) (before mid after : WriterState)
    → so_far.cv ≡ cv → Appends before.contents mid.contents (answered_lines (no_answers cv) so_far.answers)
    → Appends mid.contents after.contents (answered_line (question_frame so_far) answer)
    → Appends before.contents after.contents (answered_lines (no_answers cv) (so_far.answers ++ answer ∷ []))
written_more cv so_far answer before mid after same first second =
    let lines : answered_lines (no_answers cv) (so_far.answers ++ answer ∷ []) ≡ answered_lines (no_answers cv)
    so_far.answers ++ answered_line (question_frame so_far) answer =
    ap (λ c. answered_lines (no_answers c) (so_far.answers ++ answer ∷ [])) (sym same) ∙ lines-one so_far answer
    ∙ ap (λ c. answered_lines (no_answers c) so_far.answers ++ answered_line (question_frame so_far) answer) same in
    subst (λ (bytes : List ℕ). Appends before.contents after.contents bytes) (sym lines)
    (Appends-append before mid after _ _ first second)

pub IsReading-more : (track : Option (List ℕ)) (cv : CvNumber) (so_far next : CvAnswers) (answer : Bool)
    (before mid after : WriterState)
    → IsReading track cv so_far before mid
    → AreFirstOf (so_far.answers ++ answer ∷ []) (answers_on track cv)
    → ReadingEnds so_far.cv (so_far.answers ++ answer ∷ []) (More next)
    → Appends mid.contents after.contents (answered_line (question_frame so_far) answer) → after.failures ≡ mid.failures
    → IsReading track cv next before after
IsReading-more track cv so_far next answer before mid after reading first comes line same =
    let P : CvAnswers → Type 0 = λ a. IsReading track cv a before after in
    subst P (sym comes.1) (record {
      same_cv = reading.same_cv;
      first = first;
      written = written_more cv so_far answer before mid after reading.same_cv reading.written line;
      failures = same ∙ reading.failures;
    })

-- a write failed within a line
pub fails_in_line : (track : Option (List ℕ)) (cv : CvNumber) (so_far : CvAnswers) (answer : Bool)
    (before mid after : WriterState)
    → IsReading track cv so_far before mid
    → AreFirstOf (so_far.answers ++ answer ∷ []) (answers_on track cv)
    → AppendsFront mid after (answered_line (question_frame so_far) answer) → HasRisen mid.failures after.failures
    → ReadsCv track cv before (Err faults.Write) after
fails_in_line track cv so_far answer before mid after reading first front risen =
    let rest = first_lines cv (so_far.answers ++ answer ∷ []) (answers_on track cv) first in
    let lines : answered_lines (no_answers cv) (so_far.answers ++ answer ∷ []) ≡ answered_lines (no_answers cv)
    so_far.answers ++ answered_line (question_frame so_far) answer =
    ap (λ c. answered_lines (no_answers c) (so_far.answers ++ answer ∷ [])) (sym reading.same_cv)
    ∙ lines-one so_far answer
    ∙ ap (λ c. answered_lines (no_answers c) so_far.answers ++ answered_line (question_frame so_far) answer)
    reading.same_cv in
    let whole : reading_text track cv ≡ answered_lines (no_answers cv) so_far.answers ++ answered_line
    (question_frame so_far) answer ++ rest.0 ++ value_line (value_on track cv) =
    ap (λ (bytes : List ℕ). bytes ++ value_line (value_on track cv))
    (rest.1 ∙ ap (λ (bytes : List ℕ). bytes ++ rest.0) lines) in
    let written = front_behind before mid after (answered_lines (no_answers cv) so_far.answers)
    (answered_line (question_frame so_far) answer) reading.written front in (
      subst (λ (bytes : List ℕ). AppendsFront before after bytes) (sym whole)
          (AppendsFront-more before after _ (value_line (value_on track cv))
          (AppendsFront-more before after _ rest.0 written)),
      subst (λ (n : ℕ). HasRisen n after.failures) reading.failures risen,
    )

nine_on : (track : Option (List ℕ)) (cv : CvNumber) → length (answers_on track cv) ≡ 9
unfolding bits_from_lowest
nine_on None cv = refl
nine_on (Some cvs) cv = refl

-- nine answers are all of them
all_of : (answers all : List Bool) → length answers ≡ 9 → length all ≡ 9 → AreFirstOf answers all → answers ≡ all
all_of answers all nine many first = first ∙ ap (λ (n : ℕ). take n all) nine ∙ take_all 9 all (omega arith)

-- the reading that tells this value, or none
abbrev reading_of : Option ℕ → Reading
reading_of None = NoAnswer
reading_of (Some value) = Value value

reading_of-exact : (a b : Option ℕ) → reading_of a ≡ reading_of b → a ≡ b
reading_of-exact None None e = refl
reading_of-exact (Some a) (Some b) e = cc
reading_of-exact None (Some b) e = absurd (cc)
reading_of-exact (Some a) None e = absurd (cc)

-- the answers on a track come to the value on it
outcome : (track : Option (List ℕ)) (cv : CvNumber) (told : Option ℕ) → IfSome track IsCvs
    → ReadingEnds cv (answers_on track cv) (reading_of told) → told ≡ value_on track cv
outcome None cv told ok comes = reading_of-exact told None (silence_is_no_answer cv (reading_of told) comes)
outcome (Some cvs) cv told ok comes =
    reading_of-exact told (Some (cv_in cvs cv.number))
    (truth_is_the_value cv (cv_in cvs cv.number) (reading_of told) (ok.bytes (cv.number - 1)) comes)

-- a reading that has come to its end has nine answers
nine_answers : (cv : CvNumber) (answers : List Bool) (told : Option ℕ) → ReadingEnds cv answers (reading_of told)
    → length answers ≡ 9
nine_answers cv answers None comes = omega (arith, comes.1, ap length comes.2, length-append comes.0 (false ∷ []))
nine_answers cv answers (Some value) comes =
    omega (arith, comes.1, ap length comes.2, length-append comes.0 (true ∷ []))

-- a reading that has come to its end has all answers
all_answers : (track : Option (List ℕ)) (cv : CvNumber) (so_far : CvAnswers) (answer : Bool) (told : Option ℕ)
    → AreFirstOf (so_far.answers ++ answer ∷ []) (answers_on track cv)
    → ReadingEnds so_far.cv (so_far.answers ++ answer ∷ []) (reading_of told)
    → so_far.answers ++ answer ∷ [] ≡ answers_on track cv
all_answers track cv so_far answer told first comes =
    all_of _ _ (nine_answers so_far.cv (so_far.answers ++ answer ∷ []) told comes) (nine_on track cv) first

-- and tells the value
told_value : (track : Option (List ℕ)) (cv : CvNumber) (so_far : CvAnswers) (answer : Bool) (told : Option ℕ)
    → IfSome track IsCvs → so_far.cv ≡ cv
    → AreFirstOf (so_far.answers ++ answer ∷ []) (answers_on track cv)
    → ReadingEnds so_far.cv (so_far.answers ++ answer ∷ []) (reading_of told) → told ≡ value_on track cv
told_value track cv so_far answer told ok same_cv first comes =
    let P : List Bool → Type 0 = λ answers. ReadingEnds cv answers (reading_of told) in
    let Q : CvNumber → Type 0 = λ c. ReadingEnds c (so_far.answers ++ answer ∷ []) (reading_of told) in
    outcome track cv told ok (subst P (all_answers track cv so_far answer told first comes) (subst Q same_cv comes))

-- the value is told, behind the lines of all answers
pub tells_value : (track : Option (List ℕ)) (cv : CvNumber) (so_far : CvAnswers) (answer : Bool) (told : Option ℕ)
    (before mid after then : WriterState)
    (result : Result (Option ℕ) ToolFault) → IfSome track IsCvs → IsReading track cv so_far before mid
    → AreFirstOf (so_far.answers ++ answer ∷ []) (answers_on track cv)
    → TakesAnswer so_far answer mid (Ok (reading_of told)) after → AnswersQuestion told after result then
    → ReadsCv track cv before result then
tells_value track cv so_far answer told before mid after then result ok reading first takes
    tells =
    let all = all_answers track cv so_far answer told first takes.0 in
    let value = told_value track cv so_far answer told ok reading.same_cv first takes.0 in
    let lines : Appends before.contents after.contents (answered_lines (no_answers cv) (answers_on track cv)) =
    subst (λ (answers : List Bool). Appends before.contents after.contents (answered_lines (no_answers cv) answers)) all
    (written_more cv so_far answer before mid after reading.same_cv reading.written takes.1) in
    ends result value lines (takes.2 ∙ reading.failures) tells
  where
    ends : (result : Result (Option ℕ) ToolFault) → told ≡ value_on track cv
        → Appends before.contents after.contents (answered_lines (no_answers cv) (answers_on track cv))
        → after.failures ≡ before.failures
        → AnswersQuestion told after result then → ReadsCv track cv before result then
    ends (Ok answered) value lines same tells = (
      (
        tells.0.0 ∙ value,
        Appends-append before after then _ _ lines
            (subst (λ (v : Option ℕ). Appends after.contents then.contents (value_line v)) value tells.0.1),
      ),
      tells.1 ∙ same,
    )
    ends (Err faults.Write) value lines same tells = (
      front_behind before after then _ _ lines
          (subst (λ (v : Option ℕ). AppendsFront after then (value_line v)) value tells.0),
      subst (λ (n : ℕ). HasRisen n then.failures) same tells.1,
    )
    ends (Err (faults.Number line)) value lines same tells = absurd tells.0
    ends (Err (faults.Line line fault)) value lines same tells = absurd tells.0
    ends (Err faults.Read) value lines same tells = absurd tells.0
    ends (Err faults.TooMuch) value lines same tells = absurd tells.0
    ends (Err faults.NoMemory) value lines same tells = absurd tells.0
    ends (Err (faults.Usage usage)) value lines same tells = absurd tells

-- eight answers stand before the last of nine
eight_before : (answers bits : List Bool) (answer last : Bool) → length bits ≡ 8
    → answers ++ answer ∷ [] ≡ bits ++ last ∷ [] → (length answers ≡ 8) × (bits ≡ answers)
eight_before answers bits answer last eight split =
    let all : length answers ≡ 8 =
    omega (arith, ap length split, length-append answers (answer ∷ []), length-append bits (last ∷ [])) in (
      all,
      sym (take_at bits (last ∷ []) 8 eight) ∙ ap (λ (xs : List Bool). take 8 xs) (sym split)
          ∙ take_at answers (answer ∷ []) 8 all,
    )

-- the question behind which a value is told is that of the byte
byte_asked : (so_far : CvAnswers) (question : ServicePacket) (cv : CvNumber) (value : ℕ) → Asks so_far question
    → so_far.cv ≡ cv → length so_far.answers ≡ 8
    → value ≡ number_from_lowest so_far.answers → question ≡ Verify cv value
byte_asked so_far (Write c x) cv value asks same_cv all is = absurd asks
byte_asked so_far (BitWrite c place one) cv value asks same_cv all is = absurd asks
byte_asked so_far (BitVerify c place one) cv value asks same_cv all is = absurd (omega (arith, asks.1, place.in_range))
byte_asked so_far (Verify c x) cv value asks same_cv all is =
    ap (λ n. Verify n x) (asks.0 ∙ same_cv) ∙ ap (λ (v : ℕ). Verify cv v) (asks.2 ∙ sym is)

-- a decoder that has told its value was asked for the byte last
asked_last : (so_far : CvAnswers) (question : ServicePacket) (before now new : ServiceState) (cv : CvNumber)
    (answer : Bool) (told : Option ℕ) → Asks so_far question → so_far.cv ≡ cv
    → IsCvs before.cvs → now.cvs ≡ before.cvs → new ≡ after_question now question
    → AreFirstOf (so_far.answers ++ answer ∷ []) (answers_on (Some before.cvs) cv)
    → ReadingEnds so_far.cv (so_far.answers ++ answer ∷ []) (reading_of told) → new ≡ after_reading before cv
asked_last so_far question before now new cv answer None asks same_cv ok same is first comes =
    let clash : None ≡ Some (cv_in before.cvs cv.number) =
    told_value (Some before.cvs) cv so_far answer None ok same_cv first comes in
    absurd (cc)
asked_last so_far question before now new cv answer (Some value) asks same_cv ok same is first comes =
    let told : Some value ≡ Some (cv_in before.cvs cv.number) =
    told_value (Some before.cvs) cv so_far answer (Some value) ok same_cv first comes in
    let exact : value ≡ cv_in before.cvs cv.number = cc in
    let parts = eight_before so_far.answers comes.0 answer true comes.1 comes.2 in
    let byte : question ≡ Verify cv value =
    byte_asked so_far question cv value asks same_cv parts.0 (comes.3 ∙ ap number_from_lowest parts.1) in
    is ∙ ap (λ q. after_question now q) (byte ∙ ap (λ (v : ℕ). Verify cv v) exact)
    ∙ ap (λ (cvs : List ℕ). record
    { in_service = true; pending = Some (Verify cv (cv_in before.cvs cv.number)); cvs = cvs }) same

-- a fact that holds holds of an answer Ok too
pub on_ok : (result : Result (Option ℕ) ToolFault) (P : Type 0) → P → OnOk result P
on_ok (Ok value) P fact = fact
on_ok (Err fault) P fact = tt

-- a decoder's answer to the question behind true answers is the next one
true_answer : (so_far : CvAnswers) (question : ServicePacket) (cvs now : List ℕ) (cv : CvNumber) (answer : Bool)
    → now ≡ cvs → so_far.cv ≡ cv → IsCvs now → Asks so_far question
    → AreFirstOf so_far.answers (answers_on (Some cvs) cv) → answer ≡ is_acknowledged question now
    → AreFirstOf (so_far.answers ++ answer ∷ []) (answers_on (Some cvs) cv)
true_answer so_far question cvs now cv answer same same_cv ok asks first is =
    let all : answers_on (Some now) so_far.cv ≡ answers_on (Some cvs) cv =
    ap (λ (xs : List ℕ). answers_on (Some xs) so_far.cv) same ∙ ap (λ c. answers_on (Some cvs) c) same_cv in
    let P : List Bool → Type 0 = λ xs. AreFirstOf so_far.answers xs in
    let Q : List Bool → Type 0 = λ xs. AreFirstOf (so_far.answers ++ answer ∷ []) xs in
    let R : Bool → Type 0 = λ b. AreFirstOf (so_far.answers ++ b ∷ []) (answers_on (Some now) so_far.cv) in
    subst Q all (subst R (sym is) (next_is_true so_far question now ok asks (subst P (sym all) first)))

-- silence is the next answer of an empty track
next_is_no : (answers : List Bool) → length answers ≤ 8 → AreFirstOf answers (replicate 9 false)
    → AreFirstOf (answers ++ false ∷ []) (replicate 9 false)
next_is_no answers few first =
    let n : ℕ = length answers in
    let longer : length (answers ++ false ∷ []) ≡ n + 1 = omega (arith, length-append answers (false ∷ [])) in
    ap (λ (xs : List Bool). xs ++ false ∷ []) (first ∙ take-replicate n 9 false (omega arith))
    ∙ replicate-append-replicate n 1 false
    ∙ sym (take-replicate (n + 1) 9 false (omega arith)) ∙ ap (λ (m : ℕ). take m (replicate 9 false)) (sym longer)

-- the CVs of the decoder on a track
abbrev pub cvs_on : Option ServiceState → Option (List ℕ)
cvs_on track = option_map (λ d. d.cvs) track

-- what a track answers to the question behind true answers is the next one
pub next_answer : (so_far : CvAnswers) (question : ServicePacket) (before now : Option ServiceState) (cv : CvNumber)
    (answer : Bool) → cvs_on now ≡ cvs_on before → so_far.cv ≡ cv → IfSome now (λ d. IsCvs d.cvs)
    → Asks so_far question → length so_far.answers ≤ 8 → AreFirstOf so_far.answers (answers_on (cvs_on before) cv)
    → answer ≡ option_map_or (λ d. is_acknowledged question d.cvs) now false
    → AreFirstOf (so_far.answers ++ answer ∷ []) (answers_on (cvs_on before) cv)
next_answer so_far question None None cv answer same same_cv ok asks few first is =
    subst (λ b. AreFirstOf (so_far.answers ++ b ∷ []) (replicate 9 false)) (sym is)
    (next_is_no so_far.answers few first)
next_answer so_far question (Some before) (Some now) cv answer same same_cv ok asks few first is =
    true_answer so_far question before.cvs now.cvs cv answer (cc) same_cv ok asks first is
next_answer so_far question None (Some now) cv answer same same_cv ok asks few first is = absurd (cc)
next_answer so_far question (Some before) None cv answer same same_cv ok asks few first is = absurd (cc)

-- a question changes no CV
pub cvs_stay : (so_far : CvAnswers) (question : ServicePacket) (before now new : Option ServiceState)
    → Asks so_far question → new ≡ option_map (λ d. after_question d question) now → cvs_on now ≡ cvs_on before
    → cvs_on new ≡ cvs_on before
cvs_stay so_far question before None new asks is same = ap cvs_on is ∙ same
cvs_stay so_far question before (Some now) new asks is same =
    ap cvs_on is ∙ ap (λ (cvs : List ℕ). Some cvs) (asks_only so_far question now.cvs asks) ∙ same

-- CVs that stay have their sizes
pub sizes_stay : (before now : Option ServiceState) → cvs_on now ≡ cvs_on before → IfSome now (λ d. IsCvs d.cvs)
    → IfSome (cvs_on before) IsCvs
sizes_stay None now same ok = tt
sizes_stay (Some before) None same ok = absurd (cc)
sizes_stay (Some before) (Some now) same ok = let e : now.cvs ≡ before.cvs = cc in subst IsCvs e ok

-- a track whose value is told was asked for the byte last, where a decoder is on it
pub track_asked_last : (so_far : CvAnswers) (question : ServicePacket) (before now new : Option ServiceState)
    (cv : CvNumber) (answer : Bool) (told : Option ℕ) → Asks so_far question → so_far.cv ≡ cv
    → IfSome now (λ d. IsCvs d.cvs) → cvs_on now ≡ cvs_on before
    → new ≡ option_map (λ d. after_question d question) now
    → AreFirstOf (so_far.answers ++ answer ∷ []) (answers_on (cvs_on before) cv)
    → ReadingEnds so_far.cv (so_far.answers ++ answer ∷ []) (reading_of told)
    → new ≡ option_map (λ d. after_reading d cv) before
track_asked_last so_far question None None new cv answer told asks same_cv ok same is first comes = is
track_asked_last so_far question (Some before) (Some now) new cv answer told asks same_cv ok same is first comes =
    let e : now.cvs ≡ before.cvs = cc in
    is ∙ ap (λ d. Some d) (asked_last so_far question before now (after_question now question) cv answer told asks
    same_cv (subst IsCvs e ok) e refl first comes)
track_asked_last so_far question None (Some now) new cv answer told asks same_cv ok same is first comes = absurd (cc)
track_asked_last so_far question (Some before) None new cv answer told asks same_cv ok same is first comes = absurd (cc)
