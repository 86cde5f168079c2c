use Rattle.std.proofs.Common.{◌∙◌, ap, sym}
use Rattle.dcc_track.specs.DecoderState.{after_power_up}
use Rattle.dcc_c.proofs.BoardDecoderLemmas.{board_decoder_in, is_board_decoder, some_board_decoder}
use Rattle.dcc_c.proofs.board_decoder.dcc_board_decoder_power_up.Goals as goal

pub returns-clause-new : goal.returns-clause-new
returns-clause-new c before is =
    is_board_decoder (record { board = c.restart.new.self; part = c.clear.new.self }) _
    (ap after_power_up (board_decoder_in c.args.decoder.now before is) ∙ sym c.restart.ensures)
    (c.clear.ensures _)

pub returns-clause-decoder : goal.returns-clause-decoder
returns-clause-decoder c = some_board_decoder c.args.decoder.now
