use Rattle.std.proofs.Common.{get_or, arith}
use Rattle.std.proofs.lemmas.List.{get_or_default}
use Rattle.std.proofs.lemmas.List.Edits.{map_over_more}
use Rattle.dcc_order.specs.Turns.{no_turns, own_turn}
use Rattle.dcc_order.proofs.turns.take_own_turn.Goals as goal

pub loop-taken-preserved : goal.loop-taken-preserved
loop-taken-preserved c =
    let ys = c.loop-taken.turns in
    let i = c.loop-taken.taken-index in
    rw c.with_own.ensures (map_over_more own_turn c.args.turns.now ys i (get_or ys i no_turns) c.loop-taken-test.true
    c.loop-taken.invariant (get_or_default ys i no_turns (get_or ys i no_turns) (omega arith)))
