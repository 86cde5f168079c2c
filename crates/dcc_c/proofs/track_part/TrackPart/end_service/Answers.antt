use Rattle.std.proofs.Common.{◌≡◌, ◌∙◌, ap, sym, subst}
use Rattle.dcc_track.specs.Track.{TrackState, service_ended, track_state}
use Rattle.dcc_c.specs.Decoders.{IsPart}
use Rattle.dcc_c.proofs.TrackPartLemmas.{part_state}
use Rattle.dcc_c.proofs.track_part.TrackPart.end_service.Goals as goal

pub returns : goal.returns
returns g c before is same =
    let d = g.D.Programmable.state c.end_service_in_parts.new.decoder in
    let after = track_state d c.end_service_in_parts.new.progress c.end_service_in_parts.new.changed
    c.args.self.now.main_only in
    let ended : after ≡ service_ended before =
    c.end_service_in_parts.ensures c.args.self.now.main_only
    ∙ ap service_ended
    (part_state c.args.self.now c.progress-progress.result _ before is (c.progress-progress.ensures before is)
    same) in (
      subst (λ (s : TrackState). IsPart c.put.new.self s) ended
          (record {
            service = c.put.ensures.service d.cvs;
            changed = c.put.ensures.changed;
            main_only = c.put.ensures.main_only;
          }),
      sym (ap (λ (s : TrackState). s.decoder) ended),
    )
