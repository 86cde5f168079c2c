-- The C structure of a writing of a CV.
use Rattle.std.specs.Prelude.{◌≡◌, ℕ}
use Rattle.dcc_service.specs.declared.writer.CvWriter.{CvWriter}
use Rattle.dcc_service.specs.declared.writer.Writing.{Writing}
use Rattle.dcc_service.specs.declared.writer.Writing.TheVariants.{More, Done, Failed}
use Rattle.dcc_c.specs.declared.writer.DccWriter.{DccWriter}

-- the C structure of the writing `so_far`
abbrev pub writer_numbers : CvWriter → DccWriter
writer_numbers so_far =
    record { cv = so_far.cv.number; value = so_far.value; is_verifying = so_far.is_verifying }

-- `answer` is the number that `dcc_writer_answer` returns for the state of a writing. The number 0
-- means that the second question follows, and `writer` then has the writing. The numbers 1 and 2
-- mean that the decoder acknowledged the second question or not.
abbrev pub TellsWriting : Writing → ℕ → DccWriter → Type 0
TellsWriting (More so_far) answer writer = (answer ≡ 0) × (writer ≡ writer_numbers so_far)
TellsWriting Done answer writer = answer ≡ 1
TellsWriting Failed answer writer = answer ≡ 2
