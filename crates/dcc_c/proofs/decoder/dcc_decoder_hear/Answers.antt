use Rattle.std.proofs.Common.{List, ℕ, subst}
use Rattle.dcc_track.specs.Track.{HearsFrame}
use Rattle.dcc_c.proofs.DecoderLemmas.{decoder_in, is_decoder, some_decoder}
use Rattle.dcc_c.proofs.decoder.dcc_decoder_hear.Goals as goal

pub returns-in-Ok-clause-hears : goal.returns-in-Ok-clause-hears
returns-in-Ok-clause-hears c ok before is =
    let h = c.hear.ensures before is.part (decoder_in c.args.decoder.now before is) in (
      h.0,
      h.1,
      is_decoder (record { loco = c.hear.new.decoder; part = c.hear.new.self }) h.0 h.3 h.2,
      subst (λ (frame : List ℕ). HearsFrame before frame h.0 h.1) c.in-Ok.ensures.0 h.4,
      h.5,
    )

pub returns-in-Ok-clause-decoder : goal.returns-in-Ok-clause-decoder
returns-in-Ok-clause-decoder c = some_decoder c.args.decoder.now

pub returns-in-Err-clause-decoder : goal.returns-in-Err-clause-decoder
returns-in-Err-clause-decoder c = some_decoder c.args.decoder.now
