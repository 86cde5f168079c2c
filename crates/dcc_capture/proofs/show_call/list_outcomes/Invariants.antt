use Rattle.dcc_wire.specs.Framing.{seen, StandsFor}
use Rattle.dcc_capture.proofs.LinesLemmas.{Listing}
use Rattle.dcc_capture.proofs.show_call.list_outcomes.Given as goal

abbrev pub invariant-runs : goal.invariant-runs
invariant-runs g l =
    Listing (g.F.LineForm.is_line l.initial.form) seen (StandsFor l.framer) l.initial.input l.input l.held
    (g.W.Sink.state l.initial.writer) (g.W.Sink.state l.writer)

abbrev pub decreases-runs : goal.decreases-runs
decreases-runs g l = l.input.bytes
