use Rattle.std.proofs.Common.{◌++◌, Ok}
use Rattle.dcc_regs.specs.Loco.{cv_held}
use Rattle.dcc_io.specs.WrittenBytes.{Writes}
use Rattle.dcc_saved.specs.FleetText.{cvs_text}
use Rattle.dcc_saved.proofs.fleet_text.write_cvs.Given as goal

abbrev pub invariant-loop-n : goal.invariant-loop-n
invariant-loop-n g l =
    Writes (g.W.Sink.state l.fn.writer)
    (l.front ++ cvs_text (cv_held ((goal.Decoder-dyn g l.decoder.now).registers l.decoder.now.1)) l.n) (Ok tt)
    (g.W.Sink.state l.writer)
