-- The C structure of the answer of a decoder on both tracks.
use Rattle.dcc_track.specs.declared.answer.TrackAnswer.{TrackAnswer}
use Rattle.dcc_c.specs.declared.track_answer.DccAnswer.{DccAnswer}
use Rattle.dcc_c.specs.SmallLocos.{cv_or_0}

-- the C structure of the answer `answer`
abbrev pub answer_numbers : TrackAnswer → DccAnswer
answer_numbers answer = record { changed = cv_or_0 answer.changed; acknowledged = answer.acknowledged }
