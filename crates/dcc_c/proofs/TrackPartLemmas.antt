-- The part of a C structure of a decoder on both tracks.
use Rattle.std.proofs.Common.{◌≡◌, refl}
use Rattle.dcc_service.specs.declared.progress.ServiceProgress.{ServiceProgress}
use Rattle.dcc_track.specs.DecoderState.{DecoderState}
use Rattle.dcc_track.specs.Track.{TrackState, track_state}
use Rattle.dcc_c.specs.declared.track_part.TrackPart.{TrackPart}
use Rattle.dcc_c.specs.Decoders.{IsPart}

-- a state consists of the decoder and of what its part stores
pub part_state : (part : TrackPart) (progress : ServiceProgress) (d : DecoderState) (before : TrackState)
    → IsPart part before → progress ≡ before.progress → before.decoder ≡ d
    → track_state d progress part.changed part.main_only ≡ before
part_state part progress d before is e same = rw (e, ← same, is.changed, is.main_only) refl
