use Rattle.dcc_lost.specs.MeasuresTrack.{MeasuresTrack}
use Rattle.dcc_listen.proofs.TimingLemmas.{Measuring}
use Rattle.dcc_listen.proofs.timing_call.measure.Given as goal

abbrev pub invariant-runs : goal.invariant-runs
invariant-runs g l = Measuring l.initial.input l.input (MeasuresTrack l.figures)

abbrev pub decreases-runs : goal.decreases-runs
decreases-runs g l = l.input.bytes
