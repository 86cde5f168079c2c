-- Accessory decoders whose CVs can be written on the programming track.
use Rattle.std.specs.Prelude.{List, ℕ}
use Rattle.dcc_regs.specs.declared.board_state.BoardState.{BoardState}
use Rattle.dcc_regs.specs.BoardState.{board_map, board_who}
use Rattle.dcc_track.specs.DecoderState.{DecoderState}

-- the state of an accessory decoder in state `s` with the CVs `cvs`
abbrev pub board_on_tracks : BoardState → List ℕ → DecoderState
board_on_tracks s cvs = record { who = board_who s; registers = board_map s; cvs = cvs }
