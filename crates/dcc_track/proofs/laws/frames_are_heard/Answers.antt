use Rattle.dcc_track.proofs.FrameLemmas.{no_frame_heard, one_more_frame_heard}
use Rattle.dcc_track.proofs.laws.frames_are_heard.Goals as goal

pub returns-clause-begins : goal.returns-clause-begins
returns-clause-begins c = no_frame_heard

pub returns-clause-one_more : goal.returns-clause-one_more
returns-clause-one_more c = one_more_frame_heard
