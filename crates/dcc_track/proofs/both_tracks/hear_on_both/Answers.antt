use Rattle.std.proofs.Common.{◌≡◌, ◌≢◌, List, ℕ, true, false, refl, sym, ◌∙◌, ap, subst}
use Rattle.std.specs.Prelude.{◌&&◌, if◌then◌else◌}
use Rattle.dcc_service.specs.Machine.{reset_bytes}
use Rattle.dcc_service.specs.Progress.{state_with_cvs}
use Rattle.dcc_track.specs.DecoderState.{DecoderState, HasChanged, after_power_up}
use Rattle.dcc_track.specs.Track.{HearsOnMain}
use Rattle.dcc_track.proofs.ServiceLemmas.{after_end, cvs_powered_up}
use Rattle.dcc_track.proofs.both_tracks.hear_on_both.Goals as goal
use Rattle.dcc_track.proofs.both_tracks.hear_on_both.Given.{Over}
use Rattle.dcc_track.proofs.both_tracks.hear_on_both.Goals.{After-hear_on_main-2}

unlike : (g : Over) (c : After-hear_on_main-2 g) → c.args.frame.now ≢ reset_bytes
unlike g c e = let contrary : true ≡ false = sym (c.is_reset.ensures.1 e) ∙ c.if-is_reset.false in absurd (cc)

-- the decoder that hears the frame on the main track
heard_by : (g : Over) (c : After-hear_on_main-2 g)
    → g.D.Programmable.state c.restart_if.new.decoder
    ≡ (if c.args.progress.now.in_service && c.args.changed.now
    then after_power_up (g.D.Programmable.state c.args.decoder.now)
    else g.D.Programmable.state c.args.decoder.now)
heard_by g c =
    let served = c.serve-served in
    let same : g.D.Programmable.state served.new.decoder ≡ g.D.Programmable.state c.args.decoder.now =
    after_end _ _ c.args.progress.now served.new.progress c.args.frame.now served.result.acknowledged
    served.ensures.cvs served.ensures.decoder served.ensures.step (unlike g c) c.if-progress.false in
    c.restart_if.ensures
    ∙ ap (λ (d : DecoderState). if c.args.progress.now.in_service && c.args.changed.now then after_power_up d else d)
    same

pub returns-clause-both : goal.returns-clause-both
returns-clause-both g c = (
  state_with_cvs c.serve-served.new.progress (g.D.Programmable.state c.serve-served.new.decoder).cvs,
  c.serve-served.ensures.step,
  record {
    in_service = refl;
    pending = refl;
    reset = λ e. absurd (unlike g c e);
    service = λ _ on. let contrary : true ≡ false = sym on ∙ c.if-progress.false in absurd (cc);
    main = λ _ _. (
      subst (λ (d : DecoderState). HearsOnMain c.args.frame.now d
          (g.D.Programmable.state c.hear_on_main-2.new.decoder)) (heard_by g c) c.hear_on_main-2.ensures.hears,
      refl,
    );
  },
)

pub returns-clause-changed : goal.returns-clause-changed
returns-clause-changed g c =
    subst (λ (cvs : List ℕ). HasChanged cvs (g.D.Programmable.state c.hear_on_main-2.new.decoder).cvs
    c.hear_on_main-2.result)
    (ap (λ d. d.cvs) (heard_by g c)
    ∙ cvs_powered_up (c.args.progress.now.in_service && c.args.changed.now)
    (g.D.Programmable.state c.args.decoder.now)) c.hear_on_main-2.ensures.changed
