use Rattle.dcc_c.proofs.BoardDecoderLemmas.{board_decoder_in, is_board_decoder, some_board_decoder}
use Rattle.dcc_c.proofs.board_decoder.dcc_board_decoder_set_main_only.Goals as goal

pub returns-clause-keeps : goal.returns-clause-keeps
returns-clause-keeps c before is =
    let h = c.set_main_only.ensures before is.part (board_decoder_in c.args.decoder.now before is) in
    is_board_decoder (record { board = c.set_main_only.new.decoder; part = c.set_main_only.new.self }) _ h.1 h.0

pub returns-clause-decoder : goal.returns-clause-decoder
returns-clause-decoder c = some_board_decoder c.args.decoder.now
