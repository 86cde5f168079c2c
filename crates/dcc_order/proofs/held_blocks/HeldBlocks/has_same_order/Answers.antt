use Rattle.dcc_order.proofs.HeldLaws.{order_by_numbers}
use Rattle.dcc_order.proofs.held_blocks.HeldBlocks.has_same_order.Goals as goal

pub returns-clause-same : goal.returns-clause-same
returns-clause-same c =
    let tells = order_by_numbers c.self.invariant.0 in
    let tested = rw (c.as_slice.ensures.value, c.as_slice-2.ensures.value, c.as_slice-3.ensures.value) at
    c.same_turns_of_all-same.ensures.same in
    rw (← c.self.view_is) (λ t. tells.0 (tested.0 t), λ same. tested.1 (tells.1 same))
