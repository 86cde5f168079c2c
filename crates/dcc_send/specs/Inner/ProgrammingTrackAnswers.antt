-- A step of a reading on the programming track.
use Rattle.std.specs.Prelude.{◌≡◌, ℕ, ◌∷◌, ◌++◌, Bool, [], Option, Result, MatchResult}
use Rattle.std.specs.Io.KnownBytes.{Appends}
use Rattle.dcc_service.specs.declared.reader.Reading.{Reading}
use Rattle.dcc_service.specs.CvAnswers.{CvAnswers, question_frame}
use Rattle.dcc_service.specs.Readings.{ReadingEnds}
use Rattle.dcc_io.specs.declared.stream.Failed.{Failed}
use Rattle.dcc_io.specs.declared.fault.ToolFault.{ToolFault}
use Rattle.dcc_io.specs.Calls.{CallPost}
use Rattle.dcc_io.specs.Failures.{HasRisen}
use Rattle.dcc_send.specs.ProgrammingTrackReading.{answered_line, value_line}
use Rattle.dcc_io.specs.WriterState.{WriterState}
use Rattle.dcc_io.specs.WrittenBytes.{AppendsFront}

-- if the result is Ok, the line of `answer` was written, and the result is the reading `so_far`
-- with this answer. If the result is an error, a write failed or wrote no byte, and a prefix of the
-- line was written.
abbrev pub TakesAnswer : CvAnswers → Bool → WriterState → Result Reading Failed → WriterState → Type 0
TakesAnswer so_far answer before result after =
    MatchResult result
    (λ reading. ReadingEnds so_far.cv (so_far.answers ++ answer ∷ []) reading
    × Appends before.contents after.contents (answered_line (question_frame so_far) answer)
    × (after.failures ≡ before.failures))
    (λ failed. AppendsFront before after (answered_line (question_frame so_far) answer)
    × HasRisen before.failures after.failures)

-- if the result is Ok, the line of `value` was written, and the result is `value`. If the result is
-- an error, a write failed or wrote no byte, and a prefix of the line was written.
abbrev pub AnswersQuestion : Option ℕ → WriterState → Result (Option ℕ) ToolFault → WriterState → Type 0
AnswersQuestion value before result after =
    CallPost (λ told. (told ≡ value) × Appends before.contents after.contents (value_line value)) (λ fault. ⊥)
    (AppendsFront before after (value_line value)) ⊥ before result after
