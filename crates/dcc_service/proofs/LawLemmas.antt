-- What the questions of each kind come to, and the bits of a number.
use Rattle.std.proofs.Common.{◌≡◌, ◌≢◌, ℕ, zero, suc, ◌+◌, ◌-◌, ◌*◌, ◌/◌, Bool, true, false, List, [], ◌∷◌, get_or}
use Rattle.std.proofs.Common.{length, set, cond, Some, refl, ap, ◌∙◌, arith}
use Rattle.std.specs.Prelude.{slice_get, not}
use Rattle.std.specs.Int.{bit_at}
use Rattle.std.proofs.lemmas.List.{get_or-set_same, get_or-set_other}
use Rattle.std.proofs.lemmas.Nat.Bits.{bit_at-suc, bit_at_lowest}
use Rattle.dcc_packet.specs.Bits.{with_bit}
use Rattle.dcc_packet.specs.Rows.{bit}
use Rattle.dcc_packet.specs.declared.cv.CvNumber.{CvNumber}
use Rattle.dcc_service.specs.declared.packet.ServicePacket.TheVariants.{Write, Verify, BitWrite, BitVerify}
use Rattle.dcc_service.specs.Bits.{number_from_lowest}
use Rattle.dcc_packet.specs.Cvs.{cv_in, is_writable, written}
use Rattle.dcc_service.specs.Machine.{ServiceState}
use Rattle.dcc_service.specs.Question.{four_no_then}
use Rattle.dcc_service.specs.QuestionLaws.{QuestionsAreAnswered, VerifiesTell, BitVerifiesTell, WritesAreDone}
use Rattle.dcc_service.specs.QuestionLaws.{BitWritesAreDone, KeptCvsStay}
use Rattle.dcc_packet.proofs.Same.{bit_below}
use Rattle.dcc_packet.proofs.BitLemmas.{bit_at-with_bit, bit_at-with_bit-other}
use Rattle.dcc_service.proofs.QuestionLemmas.{answers_of}

pub questions_answered : QuestionsAreAnswered
questions_answered question before after answers asked =
    answers_of question before after answers asked.cvs.count asked.steps

pub verifies_tell : VerifiesTell
verifies_tell cv value before after answers asked =
    let known = questions_answered (Verify cv value) before after answers asked in
    (known.1, ap (λ (s : ServiceState). s.cvs) known.0)

pub bit_verifies_tell : BitVerifiesTell
bit_verifies_tell cv bits one before after answers asked =
    let known = questions_answered (BitVerify cv bits one) before after answers asked in
    (known.1, ap (λ (s : ServiceState). s.cvs) known.0)

pub value-written : (cvs : List ℕ) (cv : CvNumber) (value : ℕ) → length cvs ≡ 1024 → is_writable cv ≡ true
    → cv_in (written cvs cv value) cv.number ≡ value
value-written cvs cv value count is_written =
    ap (λ (w : Bool). get_or (cond w (set cvs (cv.number - 1) value) cvs) (cv.number - 1) 0) is_written
    ∙ get_or-set_same cvs (cv.number - 1) value 0 (omega (arith, count, cv.in_range))

other_kept : (w : Bool) (cvs : List ℕ) (i j value : ℕ) → j ≢ i
    → get_or (cond w (set cvs i value) cvs) j 0 ≡ get_or cvs j 0
other_kept true cvs i j value h = get_or-set_other cvs i j value 0 h
other_kept false cvs i j value h = refl

pub value-other : (cvs : List ℕ) (cv other : CvNumber) (value : ℕ) → other.number ≢ cv.number
    → cv_in (written cvs cv value) other.number ≡ cv_in cvs other.number
value-other cvs cv other value h =
    other_kept (is_writable cv) cvs (cv.number - 1) (other.number - 1) value
    (λ e. h (omega (arith, cv.in_range, other.in_range)))

pub unwritten : (cvs : List ℕ) (cv : CvNumber) (value : ℕ) → is_writable cv ≡ false → written cvs cv value ≡ cvs
unwritten cvs cv value isnt = ap (λ (w : Bool). cond w (set cvs (cv.number - 1) value) cvs) isnt

pub writes_done : WritesAreDone
writes_done cv value before after answers other asked =
    let is_written = ap not other in
    let known = questions_answered (Write cv value) before after answers asked in
    let cvs : after.cvs ≡ written before.cvs cv value = ap (λ (s : ServiceState). s.cvs) known.0 in (
      known.1 ∙ ap four_no_then is_written,
      ap (λ (xs : List ℕ). cv_in xs cv.number) cvs ∙ value-written before.cvs cv value asked.cvs.count is_written,
      λ another h. ap (λ (xs : List ℕ). cv_in xs another.number) cvs ∙ value-other before.cvs cv another value h,
    )

pub bit_writes_done : BitWritesAreDone
bit_writes_done cv bits one before after answers other asked =
    let is_written = ap not other in
    let value : ℕ = with_bit (cv_in before.cvs cv.number) bits.place one in
    let known = questions_answered (BitWrite cv bits one) before after answers asked in
    let cvs : after.cvs ≡ written before.cvs cv value = ap (λ (s : ServiceState). s.cvs) known.0 in
    let has : cv_in after.cvs cv.number ≡ value =
    ap (λ (xs : List ℕ). cv_in xs cv.number) cvs ∙ value-written before.cvs cv value asked.cvs.count is_written in (
      known.1 ∙ ap four_no_then is_written,
      ap (λ (v : ℕ). bit_at v bits.place) has
          ∙ bit_at-with_bit (cv_in before.cvs cv.number) bits.place one bits.in_range,
      λ another h. ap (λ (v : ℕ). bit_at v another.place) has
          ∙ bit_at-with_bit-other (cv_in before.cvs cv.number) bits.place another.place one another.in_range h,
      λ another h. ap (λ (xs : List ℕ). cv_in xs another.number) cvs ∙ value-other before.cvs cv another value h,
    )

pub kept_stay : KeptCvsStay
kept_stay cv is = (
  λ value before after answers asked.
      let known = questions_answered (Write cv value) before after answers asked in (
        known.1 ∙ ap four_no_then (ap not is),
        ap (λ (s : ServiceState). s.cvs) known.0
            ∙ unwritten before.cvs cv value (ap not is),
      ),
  λ bits one before after answers asked.
      let known = questions_answered (BitWrite cv bits one) before after answers asked in (
        known.1 ∙ ap four_no_then (ap not is),
        ap (λ (s : ServiceState). s.cvs) known.0
            ∙ unwritten before.cvs cv (with_bit (cv_in before.cvs cv.number) bits.place one) (ap not is),
      ),
)

pub bit-number_from_lowest : (bits : List Bool) (k : ℕ) (one : Bool) → slice_get bits k ≡ Some one
    → bit_at (number_from_lowest bits) k ≡ bit one
unfolding number_from_lowest
bit-number_from_lowest [] k one e = absurd (cc)
bit-number_from_lowest (b ∷ bits) zero one e =
    let same : b ≡ one = cc in
    bit_at_lowest (bit b + 2 * number_from_lowest bits) ∙ (omega (arith, bit_below b, ap bit same))
bit-number_from_lowest (b ∷ bits) (suc k) one e =
    let half : (bit b + 2 * number_from_lowest bits) / 2 ≡ number_from_lowest bits = omega (arith, bit_below b) in
    bit_at-suc (bit b + 2 * number_from_lowest bits) k ∙ ap (λ (n : ℕ). bit_at n k) half
    ∙ bit-number_from_lowest bits k one e
