use Rattle.std.proofs.Common.{subst, refl}
use Rattle.dcc_track.specs.Track.{HearsFrame, TrackState, track_state}
use Rattle.dcc_c.proofs.TrackPartLemmas.{part_state}
use Rattle.dcc_c.proofs.track_part.TrackPart.hear.Goals as goal

pub returns : goal.returns
returns g c before is same =
    let told = c.hear_in_parts-told in
    let d = g.D.Programmable.state told.new.decoder in
    let after = track_state d told.new.progress told.new.changed c.args.self.now.main_only in (
      after,
      told.result,
      record {
        service = c.put.ensures.service d.cvs;
        changed = c.put.ensures.changed;
        main_only = c.put.ensures.main_only;
      },
      refl,
      subst (λ (s : TrackState). HearsFrame s c.args.frame.now after told.result)
          (part_state c.args.self.now c.progress-progress.result _ before is (c.progress-progress.ensures before is)
          same) told.ensures,
      c.answer_numbers.ensures,
    )
