use Rattle.std.proofs.Common.{List, ℕ, ap}
use Rattle.dcc_track.specs.BoardsWithCvs.{board_on_tracks}
use Rattle.dcc_c.specs.BoardDecoders.{board_in}
use Rattle.std.proofs.Common.{sym}
use Rattle.dcc_c.proofs.BoardDecoderLemmas.{is_board_decoder}
use Rattle.dcc_c.proofs.board_decoder.dcc_board_decoder_new.Goals as goal

pub returns-clause-new : goal.returns-clause-new
returns-clause-new c = (
  board_in c.start.new.self,
  c.start.ensures.board,
  c.start.ensures.registers,
  is_board_decoder (record { board = c.start.new.self; part = c.clear.new.self }) _
      (ap (λ (cvs : List ℕ). board_on_tracks (board_in c.start.new.self) cvs) (sym c.start.ensures.cvs))
      (c.clear.ensures _),
)
