use Rattle.std.proofs.Common.{[]}
use Prim.{∣◌∣₁}
use Rattle.dcc_lost.proofs.FigureLemmas.{none_measured}
use Rattle.dcc_lost.proofs.figures.TrackFigures.new.Goals as goal

pub returns : goal.returns
returns c =
    none_measured c.new.result c.new-2.result _ c.new.ensures c.new-2.ensures.lost c.new-2.ensures.shortest
    c.new-3.ensures

pub invariant_of-result : goal.invariant_of-result
invariant_of-result c = record {
  history = ∣ (
    [],
    none_measured c.new.result c.new-2.result _ c.new.ensures c.new-2.ensures.lost c.new-2.ensures.shortest
        c.new-3.ensures,
  ) ∣₁;
}
