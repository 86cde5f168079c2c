use Rattle.std.proofs.Common.{◌<◌, arith, length, ℕ}
use Rattle.dcc_order.specs.Turns.{no_turns}
use Rattle.dcc_order.proofs.Contained.{contains_all}
use Rattle.dcc_order.proofs.TurnLaws.{has_come}
use Rattle.dcc_order.proofs.numbered_blocks.contains_all_below.Goals as goal

pub returns-clause-each : goal.returns-clause-each
returns-clause-each c =
    let count = c.args.count in
    let ns = c.args.numbers.now in
    let low = λ (k : ℕ). contains_all (λ n. n < count) ns k c.requires.below in
    let counted = rw (← c.as_slice.ensures.value) at c.count_turns.ensures.counted in (
      λ t k below.
          let inside : k < length c.as_slice.result.now = omega (arith, below, counted.each) in
          (has_come count k ns low).0
          (rw (counted.told k no_turns inside) at (c.all_rivals_occur.ensures.0 t k no_turns inside)),
      λ each. c.all_rivals_occur.ensures.1 (λ k d inside. rw (counted.told k d inside)
          ((has_come count k ns low).1 (each k (omega (arith, inside, counted.each))))),
    )
