use Rattle.std.proofs.Common.{◌-◌, length}
use Rattle.dcc_service.specs.ReadingLaws.{IsReadingUnderWay}
use Rattle.dcc_examples.proofs.programmer.read_cv.Given as goal

abbrev pub invariant-questions : goal.invariant-questions
invariant-questions g l = IsReadingUnderWay l.fn.cv (g.T.Track.cvs l.fn.track) (g.T.Track.cvs l.track) l.reader

abbrev pub decreases-questions : goal.decreases-questions
decreases-questions g l = 9 - length l.reader.answers
