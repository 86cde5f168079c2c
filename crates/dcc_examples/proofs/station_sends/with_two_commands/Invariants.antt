use Rattle.std.proofs.Common.{◌≡◌, length}
use Rattle.dcc_examples.proofs.station_sends.with_two_commands.Given as goal

abbrev pub invariant-loop-line : goal.invariant-loop-line
invariant-loop-line l = length l.station.waiting ≡ l.line-index
