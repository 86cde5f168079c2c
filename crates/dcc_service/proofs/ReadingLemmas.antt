-- What the answers to the questions of a reading come to.
use Rattle.std.proofs.Common.{cond, ◌≡◌, ℕ, zero, suc, ◌+◌, ◌*◌, ◌/◌, ◌%◌, ◌<◌, ◌≤◌, ◌-◌, Bool, true, false, List, []}
use Rattle.std.proofs.Common.{◌∷◌, ◌++◌, length, take, replicate, refl, sym, ap, ◌∙◌, arith, length-append, rules}
use Rattle.std.specs.Prelude.{◌==◌}
use Rattle.std.specs.Int.{bit_at}
use Rattle.std.proofs.lemmas.Nat.Bits.{bit_at-suc, bit_at_lowest}
use Rattle.std.proofs.lemmas.List.{take_all, take-append-le}
use Rattle.dcc_wire.specs.Frames.{with_error_byte}
use Rattle.dcc_packet.specs.Rows.{bit}
use Rattle.dcc_packet.specs.declared.cv.CvNumber.{CvNumber}
use Rattle.dcc_service.specs.declared.packet.ServicePacket.{ServicePacket}
use Rattle.dcc_service.specs.declared.packet.ServicePacket.TheVariants.{Write, Verify, BitWrite, BitVerify}
use Rattle.dcc_service.specs.declared.reader.Reading.{Reading}
use Rattle.dcc_service.specs.declared.reader.Reading.TheVariants.{More, Value, NoAnswer}
use Rattle.dcc_service.specs.Bits.{bits_from_lowest, number_from_lowest}
use Rattle.dcc_service.specs.CvAnswers.{CvAnswers, Asks, question_frame}
use Rattle.dcc_packet.specs.Cvs.{IsCvs, cv_in}
use Rattle.dcc_service.specs.Machine.{is_acknowledged, acted_on}
use Rattle.dcc_service.specs.ReadingLaws.{true_answers, AreFirstOf}
use Rattle.dcc_service.specs.Readings.{ReadingEnds}
use Rattle.dcc_service.specs.Table.{access_bytes, service_spelling}
use Rattle.dcc_service.proofs.BitsLemmas.{length-bits_from_lowest, number-bits_from_lowest}

-- the next bit of a number
pub bits_from_lowest-next : (n number : ℕ)
    → bits_from_lowest (suc n) number ≡ bits_from_lowest n number ++ (bit_at number n == 1) ∷ []
unfolding bits_from_lowest
bits_from_lowest-next zero number = ap (λ (r : ℕ). (r == 1) ∷ []) (sym (bit_at_lowest number))
bits_from_lowest-next (suc n) number =
    ap (λ bits. (number % 2 == 1) ∷ bits) (bits_from_lowest-next n (number / 2))
    ∙ ap (λ (r : ℕ). (number % 2 == 1) ∷ (bits_from_lowest n (number / 2) ++ (r == 1) ∷ [])) (sym (bit_at-suc number n))

-- the lowest bits of the lowest bits
take-bits_from_lowest : (n m number : ℕ) → n ≤ m → take n (bits_from_lowest m number) ≡ bits_from_lowest n number
unfolding bits_from_lowest
take-bits_from_lowest zero m number h = refl
take-bits_from_lowest (suc n) zero number h = absurd (omega arith)
take-bits_from_lowest (suc n) (suc m) number h =
    ap (λ bits. (number % 2 == 1) ∷ bits) (take-bits_from_lowest n m (number / 2) (omega arith))

-- the first eight true answers are bits of the value
first_bits : (n value : ℕ) → n ≤ 8 → take n (true_answers value) ≡ bits_from_lowest n value
first_bits n value few =
    let fits : n ≤ length (bits_from_lowest 8 value) = omega (arith, length-bits_from_lowest 8 value) in
    take-append-le n (bits_from_lowest 8 value) (true ∷ []) fits ∙ take-bits_from_lowest n 8 value few

-- the last of a list is known, and what stands before it
before_last : (xs ys : List Bool) (x y : Bool) → xs ++ x ∷ [] ≡ ys ++ y ∷ [] → (xs ≡ ys) × (x ≡ y)
before_last [] [] x y e = (refl, cc)
before_last [] (b ∷ ys) x y e = absurd (omega (arith, ap length e, length-append ys (y ∷ [])))
before_last (a ∷ xs) [] x y e = absurd (omega (arith, ap length e, length-append xs (x ∷ [])))
before_last (a ∷ xs) (b ∷ ys) x y e =
    let first : a ≡ b = cc in
    let more : xs ++ x ∷ [] ≡ ys ++ y ∷ [] = cc in
    let rest = before_last xs ys x y more in
    (cc, rest.1)

-- the questions of a reading change no CV
pub asks_only : (so_far : CvAnswers) (question : ServicePacket) (cvs : List ℕ) → Asks so_far question
    → acted_on question cvs ≡ cvs
asks_only so_far (Verify cv value) cvs asks = refl
asks_only so_far (BitVerify cv bits one) cvs asks = refl
asks_only so_far (Write cv value) cvs asks = absurd asks
asks_only so_far (BitWrite cv bits one) cvs asks = absurd asks

itself : (n : ℕ) → (n == n) ≡ true
itself n = search rules

-- the answer about a bit
bit_answer : (so_far : CvAnswers) (cv : CvNumber) (place number : ℕ) (one : Bool) (cvs : List ℕ) → cv ≡ so_far.cv
    → place ≡ number → one ≡ true
    → (bit_at (cv_in cvs cv.number) place == bit one) ≡ (bit_at (cv_in cvs so_far.cv.number) number == 1)
bit_answer so_far cv place number one cvs same_cv same_place is_one =
    ap (λ c. bit_at (cv_in cvs c.number) place == bit one) same_cv
    ∙ ap (λ (k : ℕ). bit_at (cv_in cvs so_far.cv.number) k == bit one) same_place
    ∙ ap (λ (b : Bool). bit_at (cv_in cvs so_far.cv.number) number == bit b) is_one

-- the answer about the byte
byte_answer : (so_far : CvAnswers) (cv : CvNumber) (value : ℕ) (cvs : List ℕ) → cv ≡ so_far.cv
    → value ≡ cv_in cvs so_far.cv.number → (cv_in cvs cv.number == value) ≡ true
byte_answer so_far cv value cvs same_cv is =
    ap (λ c. cv_in cvs c.number == value) same_cv ∙ ap (λ (v : ℕ). cv_in cvs so_far.cv.number == v) is
    ∙ itself (cv_in cvs so_far.cv.number)

-- so many true answers and one more
more_bits : (answers : List Bool) (answer : Bool) (value : ℕ) → length answers < 8
    → AreFirstOf answers (true_answers value) → answer ≡ (bit_at value (length answers) == 1)
    → AreFirstOf (answers ++ answer ∷ []) (true_answers value)
more_bits answers answer value few so_far is =
    let n : ℕ = length answers in
    let longer : length (answers ++ answer ∷ []) ≡ suc n = omega (arith, length-append answers (answer ∷ [])) in
    ap (λ (b : Bool). answers ++ b ∷ []) is
    ∙ ap (λ (xs : List Bool). xs ++ (bit_at value n == 1) ∷ []) (so_far ∙ first_bits n value (omega arith))
    ∙ sym (bits_from_lowest-next n value) ∙ sym (first_bits (suc n) value (omega arith))
    ∙ ap (λ (m : ℕ). take m (true_answers value)) (sym longer)

all_answers : (answers : List Bool) (answer : Bool) (value : ℕ) → length answers ≡ 8
    → AreFirstOf answers (true_answers value) → answer ≡ true
    → AreFirstOf (answers ++ answer ∷ []) (true_answers value)
all_answers answers answer value all so_far is =
    let bits : answers ≡ bits_from_lowest 8 value =
    so_far ∙ ap (λ (m : ℕ). take m (true_answers value)) all ∙ first_bits 8 value (omega arith) in
    let nine : length (answers ++ answer ∷ []) ≡ 9 = omega (arith, length-append answers (answer ∷ [])) in
    let many : length (true_answers value) ≡ 9 =
    omega (arith, length-append (bits_from_lowest 8 value) (true ∷ []), length-bits_from_lowest 8 value) in
    ap (λ (b : Bool). answers ++ b ∷ []) is ∙ ap (λ (xs : List Bool). xs ++ true ∷ []) bits
    ∙ sym (take_all 9 (true_answers value) (omega arith)) ∙ ap (λ (m : ℕ). take m (true_answers value)) (sym nine)

-- eight true answers have the value
eight_bits : (answers : List Bool) (value : ℕ) → length answers ≡ 8 → AreFirstOf answers (true_answers value)
    → value < 256 → number_from_lowest answers ≡ value
eight_bits answers value all so_far byte =
    ap number_from_lowest (so_far ∙ ap (λ (m : ℕ). take m (true_answers value)) all ∙ first_bits 8 value (omega arith))
    ∙ number-bits_from_lowest 8 value byte

-- behind true answers, a decoder's answer is the next one
pub next_is_true : (so_far : CvAnswers) (question : ServicePacket) (cvs : List ℕ) → IsCvs cvs → Asks so_far question
    → AreFirstOf so_far.answers (true_answers (cv_in cvs so_far.cv.number))
    → AreFirstOf (so_far.answers ++ is_acknowledged question cvs ∷ []) (true_answers (cv_in cvs so_far.cv.number))
next_is_true so_far (Write cv value) cvs ok asks first = absurd asks
next_is_true so_far (BitWrite cv bits one) cvs ok asks first = absurd asks
next_is_true so_far (BitVerify cv bits one) cvs ok asks first =
    more_bits so_far.answers _ (cv_in cvs so_far.cv.number) (omega (arith, asks.1, bits.in_range)) first
    (bit_answer so_far cv bits.place (length so_far.answers) one cvs asks.0 asks.1 asks.2)
next_is_true so_far (Verify cv value) cvs ok asks first =
    let is : value ≡ cv_in cvs so_far.cv.number =
    asks.2 ∙ eight_bits so_far.answers (cv_in cvs so_far.cv.number) asks.1 first (ok.bytes (so_far.cv.number - 1))
    in
    all_answers so_far.answers _ (cv_in cvs so_far.cv.number) asks.1 first (byte_answer so_far cv value cvs asks.0 is)

-- the true answers come to the value
pub truth_is_the_value : (cv : CvNumber) (value : ℕ) (reading : Reading) → value < 256
    → ReadingEnds cv (true_answers value) reading → reading ≡ Value value
truth_is_the_value cv value (More reader) byte comes =
    let count = length-bits_from_lowest 8 value in
    absurd (omega (arith, comes.0, length-append (bits_from_lowest 8 value) (true ∷ []), count))
truth_is_the_value cv value (Value told) byte comes =
    let parts = before_last (bits_from_lowest 8 value) comes.0 true true comes.2 in
    ap Value (comes.3 ∙ ap number_from_lowest (sym parts.0) ∙ number-bits_from_lowest 8 value byte)
truth_is_the_value cv value NoAnswer byte comes =
    let parts = before_last (bits_from_lowest 8 value) comes.0 true false comes.2 in
    let contrary : true ≡ false = parts.1 in absurd (cc)

-- nine times no comes to no answer
pub silence_is_no_answer : (cv : CvNumber) (reading : Reading) → ReadingEnds cv (replicate 9 false) reading
    → reading ≡ NoAnswer
silence_is_no_answer cv (More reader) comes = absurd (omega (arith, comes.0))
silence_is_no_answer cv (Value told) comes =
    let parts = before_last (replicate 8 false) comes.0 false true comes.2 in
    let contrary : false ≡ true = parts.1 in absurd (cc)
silence_is_no_answer cv NoAnswer comes = refl

below_eight : (n : ℕ) → n ≤ 7 → (n == 8) ≡ false
below_eight n h = search rules

-- the frame of the question of a reading
pub frame_asked : (so_far : CvAnswers) (question : ServicePacket) → Asks so_far question
    → service_spelling question ≡ question_frame so_far
frame_asked so_far (Write cv value) asks = absurd asks
frame_asked so_far (BitWrite cv bits one) asks = absurd asks
frame_asked so_far (Verify cv value) asks =
    let byte : List ℕ = with_error_byte (access_bytes 0x74 so_far.cv (number_from_lowest so_far.answers)) in
    let place : List ℕ = with_error_byte (access_bytes 0x78 so_far.cv (0xE8 + length so_far.answers)) in
    ap (λ c. with_error_byte (access_bytes 0x74 c value)) asks.0
    ∙ ap (λ (v : ℕ). with_error_byte (access_bytes 0x74 so_far.cv v)) asks.2
    ∙ ap (λ (t : Bool). cond t byte place) (sym (ap (λ (n : ℕ). n == 8) asks.1))
frame_asked so_far (BitVerify cv bits one) asks =
    let byte : List ℕ = with_error_byte (access_bytes 0x74 so_far.cv (number_from_lowest so_far.answers)) in
    let place : List ℕ = with_error_byte (access_bytes 0x78 so_far.cv (0xE8 + length so_far.answers)) in
    let last : 0xE0 + 8 * bit one + bits.place ≡ 0xE8 + length so_far.answers = omega (arith, ap bit asks.2, asks.1) in
    ap (λ c. with_error_byte (access_bytes 0x78 c (0xE0 + 8 * bit one + bits.place))) asks.0
    ∙ ap (λ (v : ℕ). with_error_byte (access_bytes 0x78 so_far.cv v)) last
    ∙ ap (λ (t : Bool). cond t byte place)
    (sym (below_eight (length so_far.answers) (omega (arith, asks.1, bits.in_range))))
