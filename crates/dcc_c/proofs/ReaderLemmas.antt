-- A reading is the one of its numbers.
use Rattle.std.proofs.Common.{◌≡◌, ℕ, ◌<◌, ◌≤◌, ◌^◌, Option, None, Some, Ok, refl, sym, ap, ◌∙◌, arith, length}
use Rattle.std.specs.Prelude.{◌↔◌, IsSome, IfSome}
use Rattle.std.specs.Result.{result_ok}
use Rattle.dcc_packet.specs.declared.cv.CvNumber.{CvNumber}
use Rattle.dcc_packet.specs.declared.fault.PacketFault.TheVariants as faults
use Rattle.dcc_packet.specs.Values.{cv_of}
use Rattle.dcc_packet.proofs.UpTo.{from_one_to_ok}
use Rattle.dcc_service.specs.Bits.{bits_from_lowest, number_from_lowest}
use Rattle.dcc_service.specs.CvAnswers.{CvAnswers}
use Rattle.dcc_service.proofs.BitsLemmas.{bits_from_lowest-number, number_from_lowest-small}
use Rattle.dcc_service.proofs.ReaderLemmas.{counted, valued}
use Rattle.dcc_c.specs.declared.reader.DccReader.{DccReader}
use Rattle.dcc_c.specs.Readers.{IsReading}

pub cv_back : (number : ℕ) (cv : CvNumber) → number ≡ cv.number → cv_of number ≡ Ok cv
cv_back number cv e =
    rw e (from_one_to_ok 1024 cv.number faults.CvNumber (λ h. record { number = cv.number; in_range = h }) cv.in_range)

-- what is taken up of numbers, with the CV of their number
pub record IsTakenUp (numbers : DccReader) (cv : CvNumber) (result : Option CvAnswers) : Type 0 where
  pub cv_is : Some cv ≡ result_ok (cv_of numbers.cv)
  pub number : cv.number ≡ numbers.cv
  pub valid : IsSome result ↔ ((numbers.known ≤ 8) × (numbers.value < 2 ^ numbers.known))
  pub reading : IfSome result (λ r. r ≡ record { cv = cv; answers = bits_from_lowest numbers.known numbers.value })

is_reading : (numbers : DccReader) (cv : CvNumber) (so_far : CvAnswers) → cv.number ≡ numbers.cv
    → (numbers.known ≤ 8) × (numbers.value < 2 ^ numbers.known)
    → so_far ≡ record { cv = cv; answers = bits_from_lowest numbers.known numbers.value } → IsReading numbers so_far
is_reading numbers cv so_far e fits r =
    let known : length so_far.answers ≡ numbers.known = counted cv numbers.known numbers.value so_far (sym r) in
    let value : numbers.value ≡ number_from_lowest so_far.answers =
    valued cv numbers.known numbers.value so_far (sym r) fits.1 in
    let number : numbers.cv ≡ so_far.cv.number = sym e ∙ ap (λ (a : CvAnswers). a.cv.number) (sym r) in
    record {
      few = omega (arith, known, fits.0);
      numbers = λ i. record { cv = number i; known = sym known i; value = value i };
    }

pub taken_is_reading : (numbers : DccReader) (cv : CvNumber) (result : Option CvAnswers) → IsTakenUp numbers cv result
    → IfSome result (IsReading numbers)
taken_is_reading numbers cv result h = go result h.valid h.reading where
  go : (o : Option CvAnswers) → IsSome o ↔ ((numbers.known ≤ 8) × (numbers.value < 2 ^ numbers.known))
      → IfSome o (λ r. r ≡ record { cv = cv; answers = bits_from_lowest numbers.known numbers.value })
      → IfSome o (IsReading numbers)
  go None valid r = tt
  go (Some so_far) valid r = is_reading numbers cv so_far h.number (valid.0 refl) r

pub reading_is_taken : (numbers : DccReader) (cv : CvNumber) (result : Option CvAnswers) → IsTakenUp numbers cv result
    → (so_far : CvAnswers) → IsReading numbers so_far → result ≡ Some so_far
reading_is_taken numbers cv result h so_far is = go result h.valid h.reading where
  known : numbers.known ≡ length so_far.answers
  known = ap (λ (n : DccReader). n.known) is.numbers

  value : numbers.value ≡ number_from_lowest so_far.answers
  value = ap (λ (n : DccReader). n.value) is.numbers

  some_same : (x y : CvNumber) → Some x ≡ Some y → x ≡ y
  some_same x y e = cc

  cv_same : cv ≡ so_far.cv
  cv_same =
      some_same cv so_far.cv
      (h.cv_is ∙ ap result_ok (cv_back numbers.cv so_far.cv (ap (λ (n : DccReader). n.cv) is.numbers)))

  few : numbers.known ≤ 8
  few = omega (arith, known, is.few)

  small : numbers.value < 2 ^ numbers.known
  small = rw (known, value) (number_from_lowest-small so_far.answers)

  go : (o : Option CvAnswers) → IsSome o ↔ ((numbers.known ≤ 8) × (numbers.value < 2 ^ numbers.known))
      → IfSome o (λ r. r ≡ record { cv = cv; answers = bits_from_lowest numbers.known numbers.value }) → o ≡ Some so_far
  go None valid r = absurd (let some = valid.1 (few, small) in cc)
  go (Some found) valid r =
      let bits : bits_from_lowest numbers.known numbers.value ≡ so_far.answers =
      rw (known, value) (bits_from_lowest-number so_far.answers) in
      ap Some (r ∙ λ i. record { cv = cv_same i; answers = bits i })
