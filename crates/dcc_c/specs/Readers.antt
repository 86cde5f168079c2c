-- The C structure of a reading of a CV.
use Rattle.std.specs.Prelude.{◌≡◌, ◌≤◌, ℕ, Bool, ◌&&◌, nat_le, length}
use Rattle.dcc_service.specs.declared.reader.Reading.{Reading}
use Rattle.dcc_service.specs.declared.reader.Reading.TheVariants.{More, Value, NoAnswer}
use Rattle.dcc_service.specs.Bits.{number_from_lowest}
use Rattle.dcc_service.specs.CvAnswers.{CvAnswers}
use Rattle.dcc_c.specs.declared.reader.DccReader.{DccReader}

-- true if `cv` is the number of a CV, 1 to 1024
abbrev pub is_cv : ℕ → Bool
is_cv cv = nat_le 1 cv && nat_le cv 1024

-- the C structure of the reading `so_far`. The structure has the CV, the number of answers, and a
-- number whose lowest bits are the answers.
abbrev pub reader_numbers : CvAnswers → DccReader
reader_numbers so_far =
    record { cv = so_far.cv.number; known = length so_far.answers; value = number_from_lowest so_far.answers }

-- `r` is the C structure of the reading `so_far`, which has at most eight answers
pub record IsReading (r : DccReader) (so_far : CvAnswers) : Type 0 where
  pub few : length so_far.answers ≤ 8
  pub numbers : r ≡ reader_numbers so_far

-- `answer` is the number that `dcc_reader_answer` returns for the result of a reading. The number 0
-- means that a further question follows, and `reader` then has the reading. The number 1 means that
-- the reading ended with `value`. The number 2 means that the reading ended without a value.
abbrev pub Tells : Reading → ℕ → DccReader → ℕ → Type 0
Tells (More so_far) answer reader value = (answer ≡ 0) × IsReading reader so_far
Tells (Value told) answer reader value = (answer ≡ 1) × (value ≡ told)
Tells NoAnswer answer reader value = answer ≡ 2
