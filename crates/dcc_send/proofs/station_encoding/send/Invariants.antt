use Rattle.std.proofs.Common.{◌≡◌, replicate}
use Rattle.dcc_io.specs.StationLines.{Next}
use Rattle.dcc_send.specs.Inner.Held.{HoldsAnswers}
use Rattle.dcc_send.proofs.station_encoding.send.Given as goal

abbrev pub invariant-loop : goal.invariant-loop
invariant-loop g l =
    HoldsAnswers l.initial.written.how l.initial.station (replicate l.counter Next) l.station
    (g.W.Sink.state l.initial.writer) (g.W.Sink.state l.writer) l.initial.held l.held
    × ((g.W.Sink.state l.writer).failures ≡ (g.W.Sink.state l.initial.writer).failures)
    × (l.written.how ≡ l.initial.written.how)
