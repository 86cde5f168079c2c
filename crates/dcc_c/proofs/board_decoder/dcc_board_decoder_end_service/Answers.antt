use Rattle.dcc_c.proofs.BoardDecoderLemmas.{board_decoder_in, is_board_decoder, some_board_decoder}
use Rattle.dcc_c.proofs.board_decoder.dcc_board_decoder_end_service.Goals as goal

pub returns-clause-ends : goal.returns-clause-ends
returns-clause-ends c before is =
    let h = c.end_service.ensures before is.part (board_decoder_in c.args.decoder.now before is) in
    is_board_decoder (record { board = c.end_service.new.decoder; part = c.end_service.new.self }) _ h.1 h.0

pub returns-clause-decoder : goal.returns-clause-decoder
returns-clause-decoder c = some_board_decoder c.args.decoder.now
