use Rattle.std.proofs.Common.{◌<◌, ◌-◌, ◌^◌, arith, subst}
use Rattle.std.specs.Prelude.{IfSome}
use Rattle.dcc_order.proofs.ComparisonLaws.{block_given, right_list_ended}
use Rattle.dcc_order.proofs.comparison.Comparison.give.Goals as goal

pub give_right-requires-clause-numbered : goal.give_right-requires-clause-numbered
give_right-requires-clause-numbered c =
    let few : c.args.self.now.right.given < 2 ^ 32 - 1 =
    subst (λ item. IfSome item (λ _. c.args.self.now.right.given < 2 ^ 32 - 1)) c.in-Right-Some.is-1
    (c.requires.right c.in-Right-Some.is-0) in
    let below = block_given c.requires.reached.1 c.in-Right-Some.is-0 in
    omega (arith, few, below)

pub returns-in-Right-None-clause-becomes : goal.returns-in-Right-None-clause-becomes
returns-in-Right-None-clause-becomes c =
    rw c.in-Right-None.is-1 (right_list_ended c.in-Right-None.is-0 (c.end_right.ensures))
