use Rattle.std.proofs.Common.{[]}
use Prim.{∣◌∣₁}
use Rattle.dcc_lost.specs.Unused.{unused_from}
use Rattle.dcc_lost.proofs.finder.LostFinder.clear.Goals as goal

pub returns : goal.returns
unfolding unused_from
returns c = record { heard = c.new-self.ensures; recent = c.clear.ensures; unused = c.clear-2.ensures }

pub invariant_of-self : goal.invariant_of-self
unfolding unused_from
invariant_of-self c = record {
  history = ∣ ([], record { heard = c.new-self.ensures; recent = c.clear.ensures; unused = c.clear-2.ensures }) ∣₁;
}
