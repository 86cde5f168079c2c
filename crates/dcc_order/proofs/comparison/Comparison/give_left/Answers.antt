use Rattle.std.proofs.Common.{true, false, refl}
use Rattle.dcc_order.proofs.ComparisonLaws.{becomes, left_given}
use Rattle.dcc_order.proofs.comparison.Comparison.give_left.Goals as goal
use Rattle.dcc_order.proofs.comparison.Comparison.give_left.Goals.{then-not-is_own_write+in_ok-push_first}
use Rattle.dcc_order.proofs.comparison.Comparison.give_left.Goals.{else-not-is_own_write+then-not-was_twice}
use Rattle.dcc_order.proofs.comparison.Comparison.give_left.Goals.{else-not-is_own_write+else-not-was_twice}

pub returns-clause-becomes : goal.returns-clause-becomes
returns-clause-becomes c = rw c.hear.ensures (elim c.if-not-is_own_write.branch [
  | then-not-is_own_write+in_ok-push_first w ↦ rw (w.self-is, w.in_ok-push_first.ensures.ok) (becomes c.requires.wants
      refl (λ lists s. left_given s c.args.packet.now (cc) c.requires.wants false _ (cc) refl))
  | else-not-is_own_write+then-not-was_twice w ↦ rw (w.self-is, w.end_left.ensures) (becomes c.requires.wants refl
      (λ lists s. left_given s c.args.packet.now (cc) c.requires.wants true false (cc) (cc)))
  | else-not-is_own_write+else-not-was_twice w ↦ rw w.self-is (becomes c.requires.wants refl
      (λ lists s. left_given s c.args.packet.now (cc) c.requires.wants true true (cc) (cc)))
])
