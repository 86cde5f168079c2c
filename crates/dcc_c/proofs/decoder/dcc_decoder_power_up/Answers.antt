use Rattle.std.proofs.Common.{sym}
use Rattle.dcc_c.proofs.DecoderLemmas.{is_decoder}
use Rattle.dcc_c.proofs.decoder.dcc_decoder_power_up.Goals as goal

pub returns-clause-new : goal.returns-clause-new
returns-clause-new c =
    is_decoder (record { loco = c.power_up.new.self; part = c.clear.new.self }) _ (sym c.power_up.ensures.state)
    (c.clear.ensures _)
