use Rattle.std.proofs.Common.{◌≡◌, suc, ◌+◌, ◌∷◌, [], get_or, take, refl, arith}
use Rattle.std.proofs.Math.Seq.{take-suc}
use Rattle.dcc_wire.specs.Framing.{Hunting}
use Rattle.dcc_wire.specs.Inner.Steps.{answer_to}
use Rattle.dcc_wire.proofs.ListLemmas.{passes_join, passes_one}
use Rattle.dcc_wire.proofs.many.hunt.Goals as goal

pub halves-preserved : goal.halves-preserved
unfolding answer_to
halves-preserved c =
    let halves = c.args.halves.now in
    let at = c.halves.hunted.at in
    let us = get_or halves at 0 in
    let inside = c.halves-test.true in
    let next : at + 1 ≡ suc at = omega arith in
    let one = passes_one (Hunting c.halves.hunted.ones) us refl in
    record {
      passes = rw (next, take-suc halves at 0 inside, c.counted.ensures, c.of-half.ensures)
          (passes_join (take at halves) (us ∷ []) c.halves.invariant.passes one);
      inside = omega (arith, inside);
    }
