-- The questions that write a CV, and the result of a writing (NMRA S-9.2.3).
use Rattle.std.specs.Prelude.{if◌then◌else◌, Bool, true}
use Rattle.dcc_service.specs.declared.packet.ServicePacket.{ServicePacket}
use Rattle.dcc_service.specs.declared.packet.ServicePacket.TheVariants.{Write, Verify}
use Rattle.dcc_service.specs.declared.writer.CvWriter.{CvWriter}
use Rattle.dcc_service.specs.declared.writer.Writing.{Writing}
use Rattle.dcc_service.specs.declared.writer.Writing.TheVariants.{More, Done, Failed}

-- the next question of the writing `so_far`. The first question writes the byte to the CV. The
-- second question verifies that the CV has the byte.
abbrev pub writing_question : CvWriter → ServicePacket
writing_question so_far =
    if so_far.is_verifying then Verify so_far.cv so_far.value else Write so_far.cv so_far.value

-- the state of the writing `so_far` after `answer`. The first question leads to the second question,
-- whether the decoder acknowledged the write or not. The answer to the second question is the
-- result.
abbrev pub writing_after : CvWriter → Bool → Writing
writing_after so_far answer =
    if so_far.is_verifying then (if answer then Done else Failed) else More (record so_far { is_verifying = true })
