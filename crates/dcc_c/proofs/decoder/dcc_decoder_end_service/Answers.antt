use Rattle.dcc_c.proofs.DecoderLemmas.{decoder_in, is_decoder, some_decoder}
use Rattle.dcc_c.proofs.decoder.dcc_decoder_end_service.Goals as goal

pub returns-clause-ends : goal.returns-clause-ends
returns-clause-ends c before is =
    let h = c.end_service.ensures before is.part (decoder_in c.args.decoder.now before is) in
    is_decoder (record { loco = c.end_service.new.decoder; part = c.end_service.new.self }) _ h.1 h.0

pub returns-clause-decoder : goal.returns-clause-decoder
returns-clause-decoder c = some_decoder c.args.decoder.now
