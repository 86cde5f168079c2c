use Rattle.std.proofs.Common.{◌≡◌}
use Rattle.dcc_send.proofs.EncodeLemmas.{Encoding}
use Rattle.dcc_send.proofs.encode_call.encode_packets.Given as goal

abbrev pub invariant-packets : goal.invariant-packets
invariant-packets g l =
    Encoding l.fn.how l.initial.input l.input l.held (g.W.Sink.state l.initial.writer) (g.W.Sink.state l.writer)
    × (l.lines.how ≡ l.fn.how)

abbrev pub decreases-packets : goal.decreases-packets
decreases-packets g l = l.input.bytes
