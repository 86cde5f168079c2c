use Rattle.dcc_c.specs.BoardDecoders.{IsBoardDecoder}
use Rattle.dcc_c.specs.Decoders.{IsDecoder}
use Rattle.dcc_c.proofs.LayoutLemmas.{layouts_obey_commands, outgoing_ends_commands}
use Rattle.dcc_c.proofs.laws.layouts_obey_commands.Goals as goal

pub returns : goal.returns
returns c = record {
  locos = layouts_obey_commands IsDecoder;
  boards = layouts_obey_commands IsBoardDecoder;
  loco_outgoing = outgoing_ends_commands IsDecoder;
  board_outgoing = outgoing_ends_commands IsBoardDecoder;
}
