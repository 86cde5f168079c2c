-- The content of the packed accessory decoder. Bit n of the byte `outs` is output n, and bit n of
-- the byte `positions` is the side of pair n.
use Rattle.std.specs.Prelude.{slice_index}
use Rattle.dcc_regs.specs.declared.packed_board.PackedBoard.{PackedBoard}
use Rattle.dcc_packet.specs.Bits.{is_one}
use Rattle.dcc_regs.specs.Board.{BoardContent}

abbrev pub packed_content : PackedBoard → BoardContent
packed_content d = record {
  outs = is_one d.outs;
  positions = is_one d.positions;
  aspects = λ n. slice_index d.aspects n;
}
