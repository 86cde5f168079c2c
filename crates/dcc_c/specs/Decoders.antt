-- The C structures of decoders on both tracks.
use Rattle.std.specs.Prelude.{◌≡◌, true}
use Rattle.dcc_regs.specs.declared.loco_state.LocoState.{LocoState}
use Rattle.dcc_regs.specs.LocoRegisters.{with_cvs}
use Rattle.dcc_regs.specs.LocoState.{is_state, loco_map, loco_who}
use Rattle.dcc_track.specs.DecoderState.{DecoderState}
use Rattle.dcc_track.specs.LocoDecoders.{loco_on_tracks}
use Rattle.dcc_track.specs.Track.{TrackState, service_part}
use Rattle.dcc_c.specs.declared.decoder.DccDecoder.{DccDecoder}
use Rattle.dcc_c.specs.declared.possible_loco.PossibleLoco.{PossibleLoco}
use Rattle.dcc_c.specs.declared.track_part.TrackPart.{TrackPart}
use Rattle.dcc_c.specs.Locos.{loco_numbers}
use Rattle.dcc_c.specs.Services.{small_service_numbers}

-- the C structure `part` stores the state of service mode and the flags of the state `s`
pub record IsPart (part : TrackPart) (s : TrackState) : Type 0 where
  pub service : part.service ≡ small_service_numbers (service_part s)
  pub changed : part.changed ≡ s.changed
  pub main_only : part.main_only ≡ s.main_only

-- the state of the locomotive decoder with the C structure `d`
abbrev pub loco_in : PossibleLoco → LocoState
loco_in d = with_cvs d.held.0 d.loco.cvs

-- the state of the locomotive decoder with the C structure `d`, as a decoder on both tracks
abbrev pub loco_state_in : PossibleLoco → DecoderState
loco_state_in d = loco_on_tracks (loco_who (loco_in d)) (loco_map (loco_in d))

-- `decoder` is the C structure of a locomotive decoder on both tracks in state `s`
pub record IsDecoder (decoder : DccDecoder) (s : TrackState) : Type 0 where
  pub state : LocoState
  pub possible : is_state state ≡ true
  pub numbers : decoder.loco.loco ≡ loco_numbers state
  pub decoder_state : s.decoder ≡ loco_on_tracks (loco_who state) (loco_map state)
  pub part : IsPart decoder.part s
