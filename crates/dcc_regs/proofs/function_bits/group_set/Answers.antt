use Rattle.std.proofs.Common.{ap, ◌∙◌, ◌-◌, ◌^◌, ◌/◌}
use Rattle.dcc_regs.specs.Inner.GroupParts.{count_of, first_function}
use Rattle.dcc_regs.proofs.GroupMask.{group_masked}
use Rattle.dcc_regs.proofs.function_bits.group_set.Goals as goal

pub returns : goal.returns
returns c n =
    group_masked c.args.mode c.args.bits c.first_function-first.result c.from-2.result c.from-3.result c.from.result
    c.from-f0.result n c.has_f0.result
    (c.first_function-first.ensures.first ∙ ap first_function c.group-group.ensures)
    (c.from-2.ensures ∙ c.bits.ensures.value)
    (c.from-3.ensures ∙ ap (λ b. b / 16) c.bits-2.ensures.value)
    (c.from.ensures ∙ c.ones_of.ensures ∙ ap (λ group. 2 ^ count_of group - 1) c.group-group.ensures)
    (rw c.from.ensures c.ones_of.type_inv) (rw (← c.bits.ensures.value) c.bits.type_inv) c.from-f0.ensures
    (rw (← c.group-group.ensures) c.has_f0.ensures)
