use Rattle.std.proofs.Common.{◌++◌, ◌∷◌, [], refl, sym, arith}
use Rattle.std.proofs.lemmas.List.{take_more}
use Rattle.std.proofs.lemmas.List.Folds.{list_any-append}
use Rattle.dcc_track.specs.declared.answer.TrackAnswer.{TrackAnswer}
use Rattle.dcc_examples.proofs.both_tracks.hear_frames.Goals as goal

pub loop-frame-init : goal.loop-frame-init
loop-frame-init g c = ([], c.frames_are_heard.ensures.begins _, refl)

pub loop-frame-preserved : goal.loop-frame-preserved
loop-frame-preserved g c =
    let heard = c.loop-frame.invariant in (
      heard.0 ++ c.hear-yes.result ∷ [],
      rw (
        take_more c.args.frames.now c.loop-frame.frame-index c.frame-item.result c.loop-frame-test.true,
        sym c.frame-item.is,
      )
          (c.frames_are_heard.ensures.one_more _ _ _ _ heard.0 _ _ heard.1 c.hear-yes.ensures),
      grind (
        arith,
        heard.2,
        list_any-append (λ (answer : TrackAnswer). answer.acknowledged) heard.0 (c.hear-yes.result ∷ []),
      ),
    )
