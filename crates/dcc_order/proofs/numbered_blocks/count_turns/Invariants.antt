use Rattle.std.proofs.Common.{take, ◌≤◌}
use Rattle.std.specs.Prelude.{vec_capacity}
use Rattle.dcc_order.specs.Turns.{Counted}
use Rattle.dcc_order.proofs.numbered_blocks.count_turns.Given as goal

abbrev pub invariant-loop-number : goal.invariant-loop-number
invariant-loop-number l =
    record {
      counted : Counted l.turns.items l.own l.count (take l.number-index l.numbers);
      room : vec_capacity l.initial.turns ≤ vec_capacity l.turns;
    }
