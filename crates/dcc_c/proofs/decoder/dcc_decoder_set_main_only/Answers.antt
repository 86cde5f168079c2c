use Rattle.dcc_c.proofs.DecoderLemmas.{decoder_in, is_decoder, some_decoder}
use Rattle.dcc_c.proofs.decoder.dcc_decoder_set_main_only.Goals as goal

pub returns-clause-keeps : goal.returns-clause-keeps
returns-clause-keeps c before is =
    let h = c.set_main_only.ensures before is.part (decoder_in c.args.decoder.now before is) in
    is_decoder (record { loco = c.set_main_only.new.decoder; part = c.set_main_only.new.self }) _ h.1 h.0

pub returns-clause-decoder : goal.returns-clause-decoder
returns-clause-decoder c = some_decoder c.args.decoder.now
