-- The content of the plain accessory decoder.
use Rattle.std.specs.Prelude.{false, slice_index, slice_index_or}
use Rattle.dcc_regs.specs.declared.board.BoardDecoder.{BoardDecoder}
use Rattle.dcc_regs.specs.Board.{BoardContent}

abbrev pub board_content : BoardDecoder → BoardContent
board_content d = record {
  outs = λ n. slice_index_or d.outs n false;
  positions = λ n. slice_index_or d.positions n false;
  aspects = λ n. slice_index d.aspects n;
}
