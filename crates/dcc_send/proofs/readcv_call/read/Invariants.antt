use Rattle.std.proofs.Common.{◌≡◌, ◌-◌, length}
use Rattle.dcc_send.proofs.TrackLemmas.{IsReading, cvs_on}
use Rattle.dcc_send.proofs.readcv_call.read.Given as goal

-- so far the track answered and its lines were written, and no CV has changed
abbrev pub invariant-questions : goal.invariant-questions
invariant-questions g l = record {
  reading : IsReading (cvs_on (g.T.ProgrammingTrack.decoder l.initial.track)) l.fn.cv l.reader
      (g.W.Sink.state l.initial.writer) (g.W.Sink.state l.writer);
  unchanged : cvs_on (g.T.ProgrammingTrack.decoder l.track) ≡ cvs_on (g.T.ProgrammingTrack.decoder l.initial.track);
}

abbrev pub decreases-questions : goal.decreases-questions
decreases-questions g l = 9 - length l.reader.answers
