use Rattle.std.proofs.Common.{ap}
use Rattle.dcc_wire.specs.Framing.{Hunting}
use Rattle.dcc_wire.specs.Runs.{rest_after_run}
use Rattle.dcc_wire.proofs.KeptLemmas.{skipped_on}
use Rattle.dcc_wire.proofs.kept.KeptFramer.skip.Goals as goal

pub invariant_of-self : goal.invariant_of-self
invariant_of-self c =
    skipped_on c.self.invariant c.if-not-self.true c.args.half c.args.n _ (rw (← c.self.view_is) at c.requires)
    c.count_on-self-inside.ensures

pub returns-then-not-self-clause-is : goal.returns-then-not-self-clause-is
returns-then-not-self-clause-is c = invariant_of-self c

pub returns-then-not-self-clause-after : goal.returns-then-not-self-clause-after
unfolding rest_after_run
returns-then-not-self-clause-after c =
    rw (← c.self.view_is, c.if-not-self.true) (ap Hunting c.count_on-self-inside.ensures)
