-- The fields of an accessory decoder.
use Rattle.std.specs.Prelude.{Bool, nat_le}
use Rattle.dcc_regs.specs.declared.board_state.BoardState.{BoardState}
use Rattle.dcc_c.specs.declared.board.DccBoard.{DccBoard}

-- the C structure of an accessory decoder in state `s`
abbrev pub board_numbers : BoardState → DccBoard
board_numbers s = record { number = s.board.number; outs = s.outs; positions = s.positions; aspects = s.aspects }

-- true if the number of the accessory decoder in state `s` is at most 510. The number 511 is the
-- broadcast.
abbrev pub is_single : BoardState → Bool
is_single s = nat_le s.board.number 510
