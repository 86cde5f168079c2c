use Rattle.std.proofs.Common.{◌++◌, ◌∷◌, [], None, Some}
use Rattle.std.proofs.lemmas.Result.{err_from_is_err_and}
use Rattle.dcc_service.specs.ReadingLaws.{AreFirstOf}
use Rattle.dcc_send.specs.ProgrammingTrackReading.{answers_on}
use Rattle.dcc_send.proofs.TrackLemmas.{cvs_on, next_answer, cvs_stay, sizes_stay, IsReading-more, fails_in_line}
use Rattle.dcc_send.proofs.TrackLemmas.{tells_value, track_asked_last, on_ok}
use Rattle.dcc_send.proofs.readcv_call.read.Goals as goal

pub questions-preserved : goal.questions-preserved
questions-preserved g c =
    let takes = rw c.in-More.is at c.in_ok-next.ensures in
    let first : AreFirstOf (c.questions.reader.answers ++ c.put-yes.result ∷ [])
    (answers_on (cvs_on (g.T.ProgrammingTrack.decoder c.args.track.now)) c.args.cv) =
    next_answer c.questions.reader c.question-question.result (g.T.ProgrammingTrack.decoder c.args.track.now)
    (g.T.ProgrammingTrack.decoder c.questions.track) c.args.cv c.put-yes.result c.questions.invariant.unchanged
    c.questions.invariant.reading.same_cv c.put-yes.ensures.cvs c.question-question.ensures.question
    c.question-question.ensures.few c.questions.invariant.reading.first c.put-yes.ensures.answer in
    record {
      reading =
          IsReading-more (cvs_on (g.T.ProgrammingTrack.decoder c.args.track.now)) c.args.cv c.questions.reader
          c.in-More.next c.put-yes.result _ _ _ c.questions.invariant.reading first takes.0 takes.1 takes.2;
      unchanged =
          cvs_stay c.questions.reader c.question-question.result (g.T.ProgrammingTrack.decoder c.args.track.now)
          (g.T.ProgrammingTrack.decoder c.questions.track) (g.T.ProgrammingTrack.decoder c.put-yes.new.self)
          c.question-question.ensures.question c.put-yes.ensures.after c.questions.invariant.unchanged;
    }

pub returns-in-Value-clause-reads : goal.returns-in-Value-clause-reads
returns-in-Value-clause-reads g c =
    let takes = rw c.in-Value.is at c.in_ok-next.ensures in
    let first : AreFirstOf (c.questions.reader.answers ++ c.put-yes.result ∷ [])
    (answers_on (cvs_on (g.T.ProgrammingTrack.decoder c.args.track.now)) c.args.cv) =
    next_answer c.questions.reader c.question-question.result (g.T.ProgrammingTrack.decoder c.args.track.now)
    (g.T.ProgrammingTrack.decoder c.questions.track) c.args.cv c.put-yes.result c.questions.invariant.unchanged
    c.questions.invariant.reading.same_cv c.put-yes.ensures.cvs c.question-question.ensures.question
    c.question-question.ensures.few c.questions.invariant.reading.first c.put-yes.ensures.answer in
    let sizes = sizes_stay (g.T.ProgrammingTrack.decoder c.args.track.now)
    (g.T.ProgrammingTrack.decoder c.questions.track) c.questions.invariant.unchanged c.put-yes.ensures.cvs in
    tells_value (cvs_on (g.T.ProgrammingTrack.decoder c.args.track.now)) c.args.cv c.questions.reader
    c.put-yes.result (Some c.in-Value.value) _ _ _ _ c.tell.result sizes c.questions.invariant.reading first takes
    c.tell.ensures

pub returns-in-Value-clause-asked : goal.returns-in-Value-clause-asked
returns-in-Value-clause-asked g c =
    let takes = rw c.in-Value.is at c.in_ok-next.ensures in
    let first : AreFirstOf (c.questions.reader.answers ++ c.put-yes.result ∷ [])
    (answers_on (cvs_on (g.T.ProgrammingTrack.decoder c.args.track.now)) c.args.cv) =
    next_answer c.questions.reader c.question-question.result (g.T.ProgrammingTrack.decoder c.args.track.now)
    (g.T.ProgrammingTrack.decoder c.questions.track) c.args.cv c.put-yes.result c.questions.invariant.unchanged
    c.questions.invariant.reading.same_cv c.put-yes.ensures.cvs c.question-question.ensures.question
    c.question-question.ensures.few c.questions.invariant.reading.first c.put-yes.ensures.answer in
    on_ok c.tell.result _
    (track_asked_last c.questions.reader c.question-question.result (g.T.ProgrammingTrack.decoder c.args.track.now)
    (g.T.ProgrammingTrack.decoder c.questions.track) (g.T.ProgrammingTrack.decoder c.put-yes.new.self) c.args.cv
    c.put-yes.result (Some c.in-Value.value) c.question-question.ensures.question
    c.questions.invariant.reading.same_cv
    c.put-yes.ensures.cvs c.questions.invariant.unchanged c.put-yes.ensures.after first takes.0)

pub returns-in-NoAnswer-clause-reads : goal.returns-in-NoAnswer-clause-reads
returns-in-NoAnswer-clause-reads g c =
    let takes = rw c.in-NoAnswer.is at c.in_ok-next.ensures in
    let first : AreFirstOf (c.questions.reader.answers ++ c.put-yes.result ∷ [])
    (answers_on (cvs_on (g.T.ProgrammingTrack.decoder c.args.track.now)) c.args.cv) =
    next_answer c.questions.reader c.question-question.result (g.T.ProgrammingTrack.decoder c.args.track.now)
    (g.T.ProgrammingTrack.decoder c.questions.track) c.args.cv c.put-yes.result c.questions.invariant.unchanged
    c.questions.invariant.reading.same_cv c.put-yes.ensures.cvs c.question-question.ensures.question
    c.question-question.ensures.few c.questions.invariant.reading.first c.put-yes.ensures.answer in
    let sizes = sizes_stay (g.T.ProgrammingTrack.decoder c.args.track.now)
    (g.T.ProgrammingTrack.decoder c.questions.track) c.questions.invariant.unchanged c.put-yes.ensures.cvs in
    tells_value (cvs_on (g.T.ProgrammingTrack.decoder c.args.track.now)) c.args.cv c.questions.reader
    c.put-yes.result None _ _ _ _ c.tell-in-NoAnswer.result sizes c.questions.invariant.reading first takes
    c.tell-in-NoAnswer.ensures

pub returns-in-NoAnswer-clause-asked : goal.returns-in-NoAnswer-clause-asked
returns-in-NoAnswer-clause-asked g c =
    let takes = rw c.in-NoAnswer.is at c.in_ok-next.ensures in
    let first : AreFirstOf (c.questions.reader.answers ++ c.put-yes.result ∷ [])
    (answers_on (cvs_on (g.T.ProgrammingTrack.decoder c.args.track.now)) c.args.cv) =
    next_answer c.questions.reader c.question-question.result (g.T.ProgrammingTrack.decoder c.args.track.now)
    (g.T.ProgrammingTrack.decoder c.questions.track) c.args.cv c.put-yes.result c.questions.invariant.unchanged
    c.questions.invariant.reading.same_cv c.put-yes.ensures.cvs c.question-question.ensures.question
    c.question-question.ensures.few c.questions.invariant.reading.first c.put-yes.ensures.answer in
    on_ok c.tell-in-NoAnswer.result _
    (track_asked_last c.questions.reader c.question-question.result (g.T.ProgrammingTrack.decoder c.args.track.now)
    (g.T.ProgrammingTrack.decoder c.questions.track) (g.T.ProgrammingTrack.decoder c.put-yes.new.self) c.args.cv
    c.put-yes.result None c.question-question.ensures.question c.questions.invariant.reading.same_cv
    c.put-yes.ensures.cvs c.questions.invariant.unchanged c.put-yes.ensures.after first takes.0)

pub returns-in_err-next-clause-reads : goal.returns-in_err-next-clause-reads
returns-in_err-next-clause-reads g c =
    let p = err_from_is_err_and c.from_residual.result c.from_residual.ensures.1 in
    let first : AreFirstOf (c.questions.reader.answers ++ c.put-yes.result ∷ [])
    (answers_on (cvs_on (g.T.ProgrammingTrack.decoder c.args.track.now)) c.args.cv) =
    next_answer c.questions.reader c.question-question.result (g.T.ProgrammingTrack.decoder c.args.track.now)
    (g.T.ProgrammingTrack.decoder c.questions.track) c.args.cv c.put-yes.result c.questions.invariant.unchanged
    c.questions.invariant.reading.same_cv c.put-yes.ensures.cvs c.question-question.ensures.question
    c.question-question.ensures.few c.questions.invariant.reading.first c.put-yes.ensures.answer in
    rw (p.1, p.2)
    (fails_in_line (cvs_on (g.T.ProgrammingTrack.decoder c.args.track.now)) c.args.cv c.questions.reader
    c.put-yes.result _ _ _ c.questions.invariant.reading first c.in_err-next.ensures.0 c.in_err-next.ensures.1)
