use Rattle.std.proofs.Common.{◌-◌, ◌≤◌}
use Rattle.dcc_wire.proofs.RunLemmas.{RunsTo}
use Rattle.dcc_wire.proofs.framer.Framer.push_by_bits.Given as goal

-- nothing was seen so far
abbrev pub invariant-loop-self : goal.invariant-loop-self
invariant-loop-self l = RunsTo l.fn.self l.self l.us l.at × (l.at ≤ l.n)

abbrev pub decreases-loop-self : goal.decreases-loop-self
decreases-loop-self l = l.n - l.at
