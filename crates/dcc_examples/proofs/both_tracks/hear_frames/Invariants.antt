use Rattle.std.proofs.Common.{◌≡◌, List, take}
use Rattle.std.specs.List.{list_any}
use Rattle.dcc_track.specs.Laws.{HearsFrames}
use Rattle.dcc_track.specs.Track.{track_of}
use Rattle.dcc_track.specs.declared.answer.TrackAnswer.{TrackAnswer}
use Rattle.dcc_examples.proofs.both_tracks.hear_frames.Given as goal

abbrev pub invariant-loop-frame : goal.invariant-loop-frame
invariant-loop-frame g l =
    (answers : List TrackAnswer)
    × HearsFrames (track_of g.D.Programmable.state l.initial.decoder) (take l.frame-index l.frames)
    (track_of g.D.Programmable.state l.decoder) answers
    × (l.yes ≡ list_any (λ (answer : TrackAnswer). answer.acknowledged) answers)
