use Rattle.std.proofs.Common.{ap, ◌∙◌, refl, subst, List, ℕ}
use Rattle.dcc_wire.specs.Frames.{with_error_byte}
use Rattle.dcc_service.specs.CvAnswers.{Asks, CvAnswers}
use Rattle.dcc_c.specs.Frames.{frame_numbers}
use Rattle.dcc_c.proofs.ApplyLemmas.{same_some}
use Rattle.dcc_c.proofs.reader.dcc_reader_question.Goals as goal

pub returns-in-Some-clause-asks : goal.returns-in-Some-clause-asks
returns-in-Some-clause-asks c so_far is =
    let same = same_some c.in-Some.reader so_far c.taken_up.result c.in-Some.is (c.taken_up.ensures.found so_far is)
    in (
      c.question.result,
      subst (λ (asked : CvAnswers). Asks asked c.question.result) same c.question.ensures.question,
      refl,
      c.of_three.ensures
          ∙ ap (λ (bytes : List ℕ). frame_numbers (with_error_byte bytes)) c.bytes.ensures,
    )
