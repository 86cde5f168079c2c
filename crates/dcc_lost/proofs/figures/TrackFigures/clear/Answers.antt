use Rattle.std.proofs.Common.{[]}
use Prim.{∣◌∣₁}
use Rattle.dcc_lost.proofs.FigureLemmas.{none_measured}
use Rattle.dcc_lost.proofs.figures.TrackFigures.clear.Goals as goal

pub returns : goal.returns
returns c =
    none_measured c.clear.new.self c.new-self.result _ c.clear.ensures c.new-self.ensures.lost
    c.new-self.ensures.shortest c.clear-2.ensures

pub invariant_of-self : goal.invariant_of-self
invariant_of-self c = record {
  history = ∣ (
    [],
    none_measured c.clear.new.self c.new-self.result _ c.clear.ensures c.new-self.ensures.lost
        c.new-self.ensures.shortest c.clear-2.ensures,
  ) ∣₁;
}
