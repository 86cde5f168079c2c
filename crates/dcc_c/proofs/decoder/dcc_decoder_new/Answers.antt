use Rattle.std.proofs.Common.{sym}
use Rattle.dcc_c.proofs.DecoderLemmas.{is_decoder}
use Rattle.dcc_c.proofs.decoder.dcc_decoder_new.Goals as goal

pub returns-clause-new : goal.returns-clause-new
returns-clause-new c =
    is_decoder (record { loco = c.start.new.self; part = c.clear.new.self }) _ (sym c.start.ensures.state)
    (c.clear.ensures _)
