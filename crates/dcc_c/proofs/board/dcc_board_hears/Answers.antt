use Rattle.std.proofs.Common.{refl}
use Rattle.dcc_c.proofs.board.dcc_board_hears.Goals as goal

pub returns-in-Ok-own_board-clause-tells : goal.returns-in-Ok-own_board-clause-tells
returns-in-Ok-own_board-clause-tells c ok single = (
  c.in-Ok-own_board.own,
  c.hears_frame.ensures.0,
  c.in-Ok-own_board.ensures.board.0,
  c.hears_frame.ensures.1,
  c.hears_frame.ensures.2,
  refl,
)
