use Rattle.std.proofs.Common.{◌≡◌, ◌+◌, ◌-◌, arith}
use Rattle.dcc_lost.proofs.BodyFigures.{one_before, other_before}
use Rattle.dcc_lost.proofs.figures.ones_after.Goals as goal

pub returns-then-not-is_nearest_one : goal.returns-then-not-is_nearest_one
returns-then-not-is_nearest_one c = λ durations ones.
    let inside = c.ones.invariant.inside in
    let some = c.ones-test.true in
    let same : c.ones.at - 1 + 1 ≡ c.ones.at = omega (arith, some) in
    let none = rw same at (other_before durations c.args.halves.now (c.ones.at - 1) (omega (arith, inside, some))
    (λ one. let yes = c.is_nearest_one.ensures.1 one in absurd (grind arith))) in
    omega (arith, c.min.ensures, c.ones.invariant.all_ones durations, none)

pub ones-preserved : goal.ones-preserved
ones-preserved c =
    let inside = c.ones.invariant.inside in
    let some = c.ones-test.true in
    let same : c.ones.at - 1 + 1 ≡ c.ones.at = omega (arith, some) in
    record {
      inside = omega (arith, inside);
      all_ones = λ durations.
          let one = rw same at (one_before durations c.args.halves.now (c.ones.at - 1) (omega (arith, inside, some))
          (c.is_nearest_one.ensures.0 (grind arith))) in
          omega (arith, c.ones.invariant.all_ones durations, one, inside, some);
    }
