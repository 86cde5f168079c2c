use Rattle.std.proofs.Common.{◌∙◌}
use Rattle.dcc_order.proofs.HeldLaws.{members_by_numbers}
use Rattle.dcc_order.proofs.held_blocks.HeldBlocks.has_same_members.Goals as goal

pub returns-clause-same : goal.returns-clause-same
returns-clause-same c =
    let size = c.len-count.ensures ∙ c.self.inside.members.ok.0 in
    let tells = members_by_numbers c.self.invariant.0 in
    let tested = rw (c.as_slice.ensures.value, size) at c.contains_all_below-same.ensures.each in
    rw (← c.self.view_is) (λ t. tells.0 (tested.0 t), λ same. tested.1 (tells.1 same))
