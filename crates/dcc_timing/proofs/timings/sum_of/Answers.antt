use Rattle.std.proofs.Common.{arith}
use Rattle.std.proofs.lemmas.List.Sums.{sum_by_more}
use Rattle.dcc_timing.proofs.timings.sum_of.Goals as goal

pub loop-i-preserved : goal.loop-i-preserved
loop-i-preserved c =
    let more = sum_by_more (λ x. x) c.args.halves.now c.loop-i.i 0 c.loop-i-test.true in
    record {
      total = omega (arith, more, c.from-sum.ensures, c.loop-i.invariant.total);
      short = omega (arith, c.from-sum.ensures, c.loop-i.invariant.short);
    }
