use Rattle.std.proofs.Math.Logic.{∥∥₁_elim}
use Rattle.std.specs.Prelude.{[]}
use Rattle.dcc_service.specs.Progress.{state_with_cvs}
use Rattle.dcc_track.specs.Track.{service_part}
use Rattle.dcc_c.proofs.ApplyLemmas.{none_some, same_some}
use Rattle.dcc_c.proofs.track_part.TrackPart.progress.Goals as goal

pub unreachable-requires : goal.unreachable-requires
unreachable-requires c =
    ∥∥₁_elim c.args.self.now.held (λ a b. absurd a)
    (λ h. none_some c.progress_of.result _ c.in-None.is (c.progress_of.ensures.found (state_with_cvs h.0 []) h.1))

pub returns : goal.returns
returns c before is =
    same_some c.in-Some.progress _ c.progress_of.result c.in-Some.is
    (c.progress_of.ensures.found (service_part before) is.service)
