use Rattle.std.proofs.Common.{length, ◌-◌, ◌≤◌, take}
use Rattle.dcc_wire.specs.Inner.Lists.{PassesList}
use Rattle.dcc_wire.proofs.framer.Framer.push_many.Given as goal

abbrev pub invariant-halves : goal.invariant-halves
invariant-halves l = PassesList l.fn.self (take l.at l.halves) l.self × (l.at ≤ length l.halves)

abbrev pub decreases-halves : goal.decreases-halves
decreases-halves l = length l.halves - l.at
