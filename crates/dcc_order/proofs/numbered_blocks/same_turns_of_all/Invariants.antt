use Rattle.std.proofs.Common.{◌<◌, ◌≤◌, ℕ}
use Rattle.std.specs.Prelude.{vec_capacity}
use Rattle.dcc_order.specs.NumberedBlocks.{NumberedAlike}
use Rattle.dcc_order.proofs.numbered_blocks.same_turns_of_all.Given as goal

abbrev pub invariant-loop-own : goal.invariant-loop-own
invariant-loop-own l = record {
  alike : (own : ℕ) → own < l.own → NumberedAlike l.members l.numbers l.others own;
  room : vec_capacity l.initial.turns ≤ vec_capacity l.turns;
  other_room : vec_capacity l.initial.other_turns ≤ vec_capacity l.other_turns;
}
