use Rattle.std.proofs.Common.{[]}
use Prim.{∣◌∣₁}
use Rattle.dcc_lost.specs.Unused.{unused_from}
use Rattle.dcc_lost.proofs.finder.LostFinder.new.Goals as goal

pub returns : goal.returns
unfolding unused_from
returns c = record { heard = c.new.ensures; recent = c.new-2.ensures; unused = c.new-3.ensures }

pub invariant_of-result : goal.invariant_of-result
unfolding unused_from
invariant_of-result c = record {
  history = ∣ ([], record { heard = c.new.ensures; recent = c.new-2.ensures; unused = c.new-3.ensures }) ∣₁;
}
