use Rattle.std.proofs.Common.{◌<◌, ◌≤◌, ◌+◌, ◌-◌, ◌*◌, ℕ}
use Rattle.dcc_lost.specs.Inner.{BeginsBody}
use Rattle.dcc_lost.proofs.figures.can_begin_body.Given as goal

abbrev pub invariant-bodies : goal.invariant-bodies
invariant-bodies l = record {
  least : 3 ≤ l.bytes;
  most : l.bytes ≤ 7;
  none : (m : ℕ) → 3 ≤ m → m < l.bytes → BeginsBody l.last (l.n + 128 - 18 * m) → ⊥;
}

abbrev pub decreases-bodies : goal.decreases-bodies
decreases-bodies l = 7 - l.bytes
