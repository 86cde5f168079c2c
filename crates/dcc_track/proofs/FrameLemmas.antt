-- Lists of frames that a decoder on both tracks hears.
use Rattle.std.proofs.Common.{[], ◌∷◌, refl, subst}
use Rattle.dcc_track.specs.Laws.{HearsFrames, NoFrameHeard, OneMoreFrameHeard}
use Rattle.dcc_track.specs.Track.{HearsFrame}

pub no_frame_heard : NoFrameHeard
unfolding HearsFrames
no_frame_heard state = refl

pub one_more_frame_heard : OneMoreFrameHeard
unfolding HearsFrames
one_more_frame_heard before now after [] [] frame answer is next =
    (after, subst (λ s. HearsFrame s frame after answer) is next, refl)
one_more_frame_heard before now after [] (a ∷ answers) frame answer none next = absurd none
one_more_frame_heard before now after (f ∷ frames) [] frame answer none next = absurd none
one_more_frame_heard before now after (f ∷ frames) (a ∷ answers) frame answer (between, first, later) next =
    (between, first, one_more_frame_heard between now after frames answers frame answer later next)
