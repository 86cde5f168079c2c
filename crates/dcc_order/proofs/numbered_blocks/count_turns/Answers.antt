use Rattle.std.proofs.Common.{arith, length-take}
use Rattle.dcc_order.proofs.TurnLaws.{few_turns}
use Rattle.dcc_order.proofs.numbered_blocks.count_turns.Goals as goal

pub take_turn-requires : goal.take_turn-requires
take_turn-requires c = rw c.as_mut_slice.ensures.value
    (few_turns _ c.loop-number.invariant.counted (simp length-take (omega arith)))
