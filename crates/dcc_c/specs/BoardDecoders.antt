-- The C structure of an accessory decoder on both tracks.
use Rattle.std.specs.Prelude.{◌≡◌}
use Rattle.dcc_regs.specs.declared.board_state.BoardState.{BoardState}
use Rattle.dcc_track.specs.BoardsWithCvs.{board_on_tracks}
use Rattle.dcc_track.specs.DecoderState.{DecoderState}
use Rattle.dcc_track.specs.Track.{TrackState}
use Rattle.dcc_c.specs.declared.board_decoder.DccBoardDecoder.{DccBoardDecoder}
use Rattle.dcc_c.specs.declared.possible_board.PossibleBoard.{PossibleBoard}
use Rattle.dcc_c.specs.Boards.{board_numbers}
use Rattle.dcc_c.specs.Decoders.{IsPart}

-- the state of the accessory decoder with the C structure `d`, without its CVs
abbrev pub board_in : PossibleBoard → BoardState
board_in d = d.held.0

-- the state of the accessory decoder with the C structure `d`, as a decoder on both tracks
abbrev pub board_state_in : PossibleBoard → DecoderState
board_state_in d = board_on_tracks (board_in d) d.cvs

-- `decoder` is the C structure of an accessory decoder on both tracks in state `s`
pub record IsBoardDecoder (decoder : DccBoardDecoder) (s : TrackState) : Type 0 where
  pub state : BoardState
  pub numbers : decoder.board.board ≡ board_numbers state
  pub decoder_state : s.decoder ≡ board_on_tracks state decoder.board.cvs
  pub part : IsPart decoder.part s
