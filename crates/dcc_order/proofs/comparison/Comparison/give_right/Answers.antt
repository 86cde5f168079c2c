use Rattle.std.proofs.Common.{refl}
use Rattle.dcc_order.proofs.ComparisonLaws.{becomes, right_joined, right_foreign, right_left_out, right_ended}
use Rattle.dcc_order.proofs.comparison.Comparison.give_right.Goals as goal
use Rattle.dcc_order.proofs.comparison.Comparison.give_right.Goals.{else-is_own_write+in_ok-push_second+then-not-branch}
use Rattle.dcc_order.proofs.comparison.Comparison.give_right.Goals.{else-is_own_write+in_ok-push_second+else-not-branch}
use Rattle.dcc_order.proofs.comparison.Comparison.give_right.Goals.{then-is_own_write+then-not-was_twice}
use Rattle.dcc_order.proofs.comparison.Comparison.give_right.Goals.{then-is_own_write+else-not-was_twice}

pub returns-clause-becomes : goal.returns-clause-becomes
returns-clause-becomes c = rw c.hear.ensures (elim c.if-is_own_write.branch [
  | else-is_own_write+in_ok-push_second+then-not-branch w ↦
      let foreign = w.push_second.ensures.foreign (cc) in
      rw (w.self-is, foreign.1) (becomes c.requires.wants refl
      (λ lists s. right_foreign s c.args.packet.now (cc) c.requires.wants (cc) foreign.0))
  | else-is_own_write+in_ok-push_second+else-not-branch w ↦
      rw (w.self-is, w.push_second.ensures.known (cc)) (becomes c.requires.wants refl
      (λ lists s. right_joined s c.args.packet.now (cc) c.requires.wants (cc)))
  | then-is_own_write+then-not-was_twice w ↦
      rw w.self-is (right_ended c.args.packet.now c.requires.wants (cc) (cc) (cc) w.end_right.ensures)
  | then-is_own_write+else-not-was_twice w ↦ rw w.self-is (becomes c.requires.wants refl
      (λ lists s. right_left_out s c.args.packet.now (cc) c.requires.wants (cc) (cc)))
])
