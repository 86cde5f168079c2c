-- The registers of a custom accessory decoder.
use Rattle.std.specs.Prelude.{false, slice_index, slice_index_or}
use Rattle.dcc_regs.specs.Board.{BoardContent}
use Rattle.dcc_examples.specs.declared.own_board.OwnBoard.{OwnBoard}

abbrev pub own_content : OwnBoard → BoardContent
own_content d = record {
  outs = λ n. slice_index_or d.outs n false;
  positions = λ n. slice_index_or d.sides n false;
  aspects = λ n. slice_index d.aspects n;
}
