-- The state of an accessory decoder as plain data.
use Rattle.std.specs.Prelude.{false, slice_index, slice_index_or}
use Rattle.dcc_regs.specs.declared.board_state.BoardState.{BoardState}
use Rattle.dcc_regs.specs.declared.register.Who.{Who}
use Rattle.dcc_regs.specs.declared.register.Who.TheVariants.{Board as BoardWho}
use Rattle.dcc_packet.specs.Bits.{is_one}
use Rattle.dcc_regs.specs.Board.{BoardContent, board_registers}
use Rattle.dcc_regs.specs.Result.{RegisterMap}

-- the content of an accessory decoder in state `s`
abbrev pub board_state_content : BoardState → BoardContent
board_state_content s =
    record {
      outs = is_one s.outs;
      positions = λ n. slice_index_or s.positions n false;
      aspects = λ n. slice_index s.aspects n;
    }

-- the identity of an accessory decoder in state `s`: the number of the decoder
abbrev pub board_who : BoardState → Who
board_who s = BoardWho s.board

abbrev pub board_map : BoardState → RegisterMap
board_map s = board_registers (board_state_content s)
