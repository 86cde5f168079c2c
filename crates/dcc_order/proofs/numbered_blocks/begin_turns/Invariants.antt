use Rattle.std.proofs.Common.{◌≤◌}
use Rattle.std.specs.Prelude.{vec_capacity}
use Rattle.dcc_order.specs.Turns.{Started}
use Rattle.dcc_order.proofs.numbered_blocks.begin_turns.Given as goal

abbrev pub invariant-loop-rival : goal.invariant-loop-rival
invariant-loop-rival l =
    record { begun : Started l.turns.items l.rival; room : vec_capacity l.initial.turns ≤ vec_capacity l.turns }
