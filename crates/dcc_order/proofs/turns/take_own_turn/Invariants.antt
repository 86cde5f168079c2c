use Rattle.std.proofs.Common.{◌≡◌, ◌++◌, map, take, drop}
use Rattle.dcc_order.specs.Turns.{own_turn}
use Rattle.dcc_order.proofs.turns.take_own_turn.Given as goal

abbrev pub invariant-loop-taken : goal.invariant-loop-taken
invariant-loop-taken l =
    l.turns ≡ map own_turn (take l.taken-index l.initial.turns) ++ drop l.taken-index l.initial.turns
