use Rattle.std.specs.Prelude.{None}
use Rattle.dcc_track.proofs.serving.serve.Goals as goal

pub returns-in-None-clause-step : goal.returns-in-None-clause-step
returns-in-None-clause-step g c =
    let cvs = (g.D.Programmable.state c.args.decoder.now).cvs in
    c.apply_with_value.ensures.steps cvs None (rw c.in-None.is at (c.accessed_cv.ensures cvs)) tt
