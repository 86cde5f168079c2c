-- An accessory decoder on both tracks, by its C structure.
use Rattle.std.proofs.Common.{◌≡◌, sym, ◌∙◌, ap, refl}
use Rattle.std.proofs.Math.Logic.{∥∥₁_map}
use Rattle.dcc_regs.specs.declared.board_state.BoardState.{BoardState}
use Rattle.dcc_track.specs.BoardsWithCvs.{board_on_tracks}
use Rattle.dcc_track.specs.Track.{TrackState, track_state}
use Rattle.dcc_c.specs.declared.board_decoder.DccBoardDecoder.{DccBoardDecoder}
use Rattle.dcc_c.specs.BoardDecoders.{IsBoardDecoder, board_in, board_state_in}
use Rattle.dcc_c.specs.Decoders.{IsPart}
use Rattle.dcc_c.proofs.PossibleBoardLemmas.{board_held}

pub is_board_decoder : (d : DccBoardDecoder) (s : TrackState) → s.decoder ≡ board_state_in d.board → IsPart d.part s
    → IsBoardDecoder d s
is_board_decoder d s e part = record {
  state = board_in d.board;
  numbers = d.board.held.1;
  decoder_state = e;
  part = part;
}

pub board_decoder_in : (d : DccBoardDecoder) (s : TrackState) → IsBoardDecoder d s
    → s.decoder ≡ board_state_in d.board
board_decoder_in d s is =
    is.decoder_state
    ∙ ap (λ (b : BoardState). board_on_tracks b d.board.cvs)
    (sym (board_held d.board.board d.board.held is.state is.numbers))

-- each structure is that of a decoder
pub some_board_decoder : (d : DccBoardDecoder) → ∥ ((s : TrackState) × IsBoardDecoder d s) ∥₁
some_board_decoder d =
    ∥∥₁_map d.part.held
    (λ h. (
      track_state (board_state_in d.board) h.0 d.part.changed d.part.main_only,
      is_board_decoder d (track_state (board_state_in d.board) h.0 d.part.changed d.part.main_only) refl
          (record { service = h.1; changed = refl; main_only = refl }),
    ))
