use Rattle.std.proofs.Common.{◌≡◌}
use Rattle.dcc_send.proofs.StationLemmas.{Answering}
use Rattle.dcc_send.proofs.station_encoding.encode_by_station.Given as goal

abbrev pub invariant-lines : goal.invariant-lines
invariant-lines g l =
    Answering l.fn.how l.initial.station l.station l.initial.input l.input l.held (g.W.Sink.state l.initial.writer)
    (g.W.Sink.state l.writer)
    × (l.written.how ≡ l.fn.how)

abbrev pub decreases-lines : goal.decreases-lines
decreases-lines g l = l.input.bytes
