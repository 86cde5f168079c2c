-- A reading as its fields: how many bits are known, and their number.
use Rattle.std.proofs.Common.{◌≡◌, ℕ, suc, ◌+◌, ◌*◌, ◌^◌, ◌%◌, ◌<◌, Bool, true, false, [], ◌∷◌, ◌++◌, length, refl}
use Rattle.std.proofs.Common.{sym, ap, ◌∙◌, add-one, arith}
use mir.Val.{bool_byte}
use Rattle.dcc_packet.specs.declared.cv.CvNumber.{CvNumber}
use Rattle.dcc_service.specs.CvAnswers.{CvAnswers}
use Rattle.dcc_packet.specs.Rows.{bit}
use Rattle.dcc_service.specs.Bits.{bits_from_lowest, number_from_lowest}
use Rattle.dcc_service.proofs.BitsLemmas.{length-bits_from_lowest, number-bits_from_lowest}
use Rattle.dcc_service.proofs.BitsLemmas.{bits_from_lowest-more, byte_weight}

-- the fields of a reading, and what callers see of it
abbrev pub view : CvNumber → ℕ → ℕ → CvAnswers
view cv known value = record { cv = cv; answers = bits_from_lowest known value }

pub counted : (cv : CvNumber) (known value : ℕ) (so_far : CvAnswers) → view cv known value ≡ so_far
    → length so_far.answers ≡ known
counted cv known value so_far e = sym (ap (λ (a : CvAnswers). length a.answers) e) ∙ length-bits_from_lowest known value

pub valued : (cv : CvNumber) (known value : ℕ) (so_far : CvAnswers) → view cv known value ≡ so_far → value < 2 ^ known
    → value ≡ number_from_lowest so_far.answers
valued cv known value so_far e h =
    sym (number-bits_from_lowest known value h) ∙ ap (λ (a : CvAnswers). number_from_lowest a.answers) e

byte_of : (one : Bool) → bool_byte one ≡ bit one
byte_of true = refl
byte_of false = refl

-- one answer more
pub answered : (cv : CvNumber) (known value byte : ℕ) (reply : Bool) (so_far : CvAnswers) → view cv known value ≡ so_far
    → value < 2 ^ known → known < 8 → byte ≡ bool_byte reply
    → view cv (known + 1) (value + byte * 2 ^ known % 256) ≡ record
    { cv = so_far.cv; answers = so_far.answers ++ reply ∷ [] }
answered cv known value byte reply so_far e h few is =
    let weight : byte * 2 ^ known % 256 ≡ bit reply * 2 ^ known =
    ap (λ (b : ℕ). b * 2 ^ known % 256) (is ∙ byte_of reply) ∙ byte_weight reply known (omega arith) in
    rw add-one (ap (λ (w : ℕ). view cv (suc known) (value + w)) weight
    ∙ ap (λ answers. record { cv = cv; answers = answers }) (bits_from_lowest-more known value reply h)
    ∙ ap (λ (a : CvAnswers). record { cv = a.cv; answers = a.answers ++ reply ∷ [] }) e)
