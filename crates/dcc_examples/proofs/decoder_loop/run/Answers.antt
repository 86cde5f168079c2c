use Rattle.dcc_examples.proofs.decoder_loop.run.Goals as goal

pub returns : goal.returns
returns g c = rw (← c.new-loco.ensures.who, ← c.new-loco.ensures.registers) c.hear_track.ensures.heard
