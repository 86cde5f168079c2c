use Rattle.std.proofs.Common.{length, take, ◌-◌, ◌≡◌, ◌≤◌}
use Rattle.std.specs.Io.KnownBytes.{Appends}
use Rattle.dcc_io.proofs.writing.write_all.Given as goal

abbrev pub invariant-calls : goal.invariant-calls
invariant-calls g l = record {
  within : l.done ≤ length l.bytes;
  contents : Appends (g.W.Sink.state l.initial.writer).contents (g.W.Sink.state l.writer).contents
      (take l.done l.bytes);
  failures : (g.W.Sink.state l.writer).failures ≡ (g.W.Sink.state l.initial.writer).failures;
}

abbrev pub decreases-calls : goal.decreases-calls
decreases-calls g l = length l.bytes - l.done
