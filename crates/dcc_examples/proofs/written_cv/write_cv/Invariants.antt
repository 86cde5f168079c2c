use Rattle.std.proofs.Common.{if◌then◌else◌}
use Rattle.dcc_service.specs.WritingLaws.{IsWritingUnderWay}
use Rattle.dcc_examples.proofs.written_cv.write_cv.Given as goal

abbrev pub invariant-questions : goal.invariant-questions
invariant-questions g l =
    IsWritingUnderWay l.fn.cv l.fn.value (g.T.Track.cvs l.fn.track) (g.T.Track.cvs l.track) l.writer

abbrev pub decreases-questions : goal.decreases-questions
decreases-questions g l = if l.writer.is_verifying then 0 else 1
