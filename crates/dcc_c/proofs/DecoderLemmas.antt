-- A locomotive decoder on both tracks, by its C structure.
use Rattle.std.proofs.Common.{◌≡◌, sym, ◌∙◌, refl}
use Rattle.std.proofs.Math.Logic.{∥∥₁_map}
use Rattle.dcc_track.specs.Track.{TrackState, track_state}
use Rattle.dcc_c.specs.declared.decoder.DccDecoder.{DccDecoder}
use Rattle.dcc_c.specs.Decoders.{IsDecoder, IsPart, loco_in, loco_state_in}
use Rattle.dcc_c.proofs.PossibleLocoLemmas.{numbers_of, possible_in, state_is}

pub is_decoder : (d : DccDecoder) (s : TrackState) → s.decoder ≡ loco_state_in d.loco → IsPart d.part s → IsDecoder d s
is_decoder d s e part = record {
  state = loco_in d.loco;
  possible = possible_in d.loco;
  numbers = numbers_of d.loco;
  decoder_state = e;
  part = part;
}

pub decoder_in : (d : DccDecoder) (s : TrackState) → IsDecoder d s → s.decoder ≡ loco_state_in d.loco
decoder_in d s is = is.decoder_state ∙ sym (state_is d.loco is.state is.possible is.numbers)

-- each structure is that of a decoder
pub some_decoder : (d : DccDecoder) → ∥ ((s : TrackState) × IsDecoder d s) ∥₁
some_decoder d =
    ∥∥₁_map d.part.held
    (λ h. (
      track_state (loco_state_in d.loco) h.0 d.part.changed d.part.main_only,
      is_decoder d (track_state (loco_state_in d.loco) h.0 d.part.changed d.part.main_only) refl
          (record { service = h.1; changed = refl; main_only = refl }),
    ))
